-- The code's mentions without where their names lie in memory.
use Rattle.std.specs.Prelude.{List, map}
use Rattle.st_grammar.specs.declared.mentions.Mention.{Mention as Borrowed}
use Rattle.st_grammar.specs.Counts.{Mention}

-- a mention with its name as the bytes that the code points to
abbrev pub mention_view : Borrowed → Mention
mention_view m = record { name = m.name.now; site = m.site }

-- each of a list of mentions so, in the same order
abbrev pub mention_views : List Borrowed → List Mention
mention_views ms = map mention_view ms
