use Rattle.st_grammar_laws.proofs.Exact.{text_or_fault, one_index, one_place}
use Rattle.st_grammar_laws.proofs.laws.one_fault.Goals as goal

pub returns : goal.returns
returns c = record {
  some = text_or_fault;
  not_both = λ ts tree index h f. f.no_text tree h;
  one_index = one_index;
  one_place = one_place;
}
