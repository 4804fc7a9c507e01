use Rattle.std.proofs.Common.{sym, arith}
use Rattle.st_lex.proofs.PlaceLemmas.{place_at_start}
use Rattle.st_parse.proofs.parser.end_place.Goals as goal

pub loop-byte-init : goal.loop-byte-init
loop-byte-init c = record { same = sym (place_at_start c.args.text.now); line = omega arith; column = omega arith }
