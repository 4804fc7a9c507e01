-- Plain functions of views.
use Rattle.std.specs.Prelude.{ℕ, Bool, true, false, List, [], None}
use Rattle.st_events.specs.declared.events.Event.{Event}
use Rattle.st_rule.specs.declared.views.Phase.{Phase}
use Rattle.st_rule.specs.declared.views.Phase.TheVariants.{Outside, Entering, Inside, Closing, Alone}
use Rattle.st_rule.specs.declared.views.View.{View}
use Rattle.st_rule.specs.declared.views.View.TheVariants.{Mut, Lane, Gone}
use Rattle.st_rule.specs.declared.views.MutView.{MutView}

-- the journal as far as a view has seen it; a view that was joined away has seen nothing
abbrev pub seen_by : View → List Event
seen_by (Mut v) = v.journal.seen
seen_by (Lane l) = l.seen
seen_by Gone = []

-- what the flag of a number in this phase says
abbrev pub flag_of : Phase → ℕ
flag_of Outside = 0
flag_of Entering = 1
flag_of Inside = 1
flag_of Closing = 0
flag_of Alone = 0

-- whether a number in this phase has the closing word
abbrev pub is_closer : Phase → Bool
is_closer Outside = false
is_closer Entering = false
is_closer Inside = false
is_closer Closing = true
is_closer Alone = true

-- a mutator's view that stands for none
abbrev pub nobody : MutView
nobody = record {
  terms = record { shape = record { classes = []; checks = [] }; sizes = record { mutators = 0; lanes = 0; objects = 0; copies = 0; events = 0; calls = 0 } };
  tally = record { steps = 0; found = None };
  gate = record { number = 0; phase = Outside; clear = []; split = 0 };
  board = record { loaded = [] };
  journal = record { seen = []; entries = [] };
  held = None;
  hands = record { joined = [] };
}

-- the view of a mutator's seat
abbrev pub mutator_of : View → MutView
mutator_of (Mut v) = v
mutator_of (Lane l) = nobody
mutator_of Gone = nobody
