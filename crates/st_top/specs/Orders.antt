-- What is asked of a run: by the words of `run`, and by those of `demo`; and what the run is that was asked for.
use Rattle.std.specs.Prelude.{◌≡◌, ℕ, List, Option, Some, None, unwrap_or}
use Rattle.st_ast.specs.declared.declarations.Program.{Program}
use Rattle.st_events.specs.declared.limits.Sizes.{Sizes}
use Rattle.st_events.specs.Terms.{RanLists}
use Rattle.st_gen.specs.Source.{source_text}
use Rattle.st_run_meaning.specs.Runs.{scheduled_run}
use Rattle.st_thread_meaning.specs.Right.{IsRightRun}
use Rattle.st_top.specs.Outputs.{text_in, last_line}
use Rattle.st_top.specs.Programs.{IsOfSource, mutators_of}
use Rattle.st_top.specs.declared.limits.TheConstants.{USUAL_SEED, DEMO_SEED, DEMO_LANES, DEMO_OBJECTS, DEMO_COPIES, DEMO_EVENTS, DEMO_CALLS}
use Rattle.st_types.specs.Rules.{resolution, shape_of}
use Rattle.st_words.specs.declared.words.RunWords.{RunWords}
use Rattle.st_words.specs.declared.words.Words.{Words}
use Rattle.st_words.specs.declared.words.Words.TheVariants as words

-- the source, where its bytes are told; the sizes, for a program with so many threads; the seed; and what is written
pub record Order : Type 0 where
  pub source : Option (List ℕ)
  pub sizes : ℕ → Sizes
  pub seed : ℕ
  pub output : Program → Sizes → RanLists → List ℕ

-- The run that was ordered: the program is that of a source, of the one told, where one is told; the sizes are those that were asked for, with a
-- mutator for each thread; the run is the one that the seed schedules; and it is a right run.
pub record IsOrderedRun (order : Order) (ran : RanLists) : Type 0 where
  pub program : Program
  pub accepted : IsOfSource order.source program
  pub sizes : Sizes
  pub as_asked : sizes ≡ order.sizes (mutators_of program)
  pub by_seed : ran ≡ scheduled_run (shape_of program) (resolution program) sizes order.seed
  pub right : IsRightRun (shape_of program) (resolution program) sizes ran

-- the sizes that the words of `run` give, by option or default
abbrev pub sizes_in : RunWords → ℕ → Sizes
sizes_in call threads = record {
  mutators = threads;
  lanes = call.lanes;
  objects = call.objects;
  copies = call.copies;
  events = call.events;
  calls = call.calls;
}

-- the sizes of `demo`
abbrev pub demo_sizes : ℕ → Sizes
demo_sizes threads = record {
  mutators = threads;
  lanes = DEMO_LANES;
  objects = DEMO_OBJECTS;
  copies = DEMO_COPIES;
  events = DEMO_EVENTS;
  calls = DEMO_CALLS;
}

-- the run that `run` asks for, where the bytes of its file are told by this
abbrev pub run_order : Option (List ℕ) → RunWords → Order
run_order source call = record {
  source = source;
  sizes = sizes_in call;
  seed = unwrap_or call.schedule USUAL_SEED;
  output = text_in call.form;
}

-- the run that `demo` asks for
abbrev pub demo_order : ℕ → Order
demo_order n = record { source = Some (source_text n); sizes = demo_sizes; seed = DEMO_SEED; output = last_line }

-- the run that the words ask for, if they ask for one
abbrev pub order_of : (List ℕ → Option (List ℕ)) → Words → Option Order
order_of told (words.Run call) = Some (run_order (told call.file) call)
order_of told (words.Check file) = None
order_of told (words.Audit file journal) = None
order_of told (words.Gen n) = None
order_of told (words.Demo n) = Some (demo_order n)
