-- Steps that ask for an event: of null they are faults, else they are what the machine asks for once its operands are taken
use Rattle.std.proofs.Common.{Some, None, ◌≡◌, ℕ, ◌-◌, ◌==◌, Bool, true, false, if◌then◌else◌, List, ◌∷◌, Option, refl, sym, ◌∙◌, ap, subst}
use Rattle.std.proofs.lemmas.Bool.{ne_eqb}
use Rattle.st_events.specs.declared.events.Site.{Site}
use Rattle.st_events.specs.declared.verdicts.End.TheVariants.{Null, HeapFull}
use Rattle.st_events.specs.declared.verdicts.Plain.TheVariants as fault
use Rattle.st_check_meaning.specs.Courses.{Course, ends_in}
use Rattle.st_check_meaning.specs.Meaning.{field_of, read_cell}
use Rattle.st_thread_meaning.specs.Deeds.{Request, make, load, Deed, ends, Means, asking}
use Rattle.st_thread_meaning.specs.Statements.{evaluating, new_deed}
use Rattle.st_mutator.specs.declared.asking.Asked.{Asked}
use Rattle.st_mutator.specs.declared.asking.Asked.TheVariants as asked
use Rattle.st_mutator.specs.declared.nodes.Entry.{Entry}
use Rattle.st_mutator.specs.declared.nodes.Node.{Node}
use Rattle.st_mutator.specs.declared.machines.Machine.{Machine}
use Rattle.st_mutator.specs.declared.nodes.Next.{Next}
use Rattle.st_mutator.specs.Running.{unless_null}
use Rattle.st_mutator.specs.Standing.{IsStanding, IsStep, means_of, rest_of, going_in, told_operands, work_of, with_operands}

-- of an object that is not null the event is asked for
unless_null_known :
    (obj : ℕ) (at : Site) (request : Request) (means : Means) (rest : ℕ → Means → Deed)
    → (obj ≡ 0 → ⊥)
    → asking request means rest ≡ unless_null obj at request means rest
unless_null_known obj at request means rest h = by (obj == 0) (ne_eqb obj 0 h)
  where
    by : (t : Bool) → t ≡ false → ◌≡◌ {A = Deed} (asking request means rest) (elim t [ true ↦ ends (Null at) | false ↦ asking request means rest ])
    by true e = absurd (cc)
    by false e = refl

-- a step that asks for an event without a null test is one with the test, where the object is not null
pub not_null_step :
    (obj : ℕ) (at : Site) (request : Request) (means : Means) (rest : ℕ → Means → Deed) (a : Option Asked) (new : Machine) (nodes : List Node)
    (entries : List Entry) (work : ℕ)
    → (obj ≡ 0 → ⊥)
    → IsStep a new nodes entries work (asking request means rest)
    → IsStep a new nodes entries work (unless_null obj at request means rest)
not_null_step obj at request means rest a new nodes entries work h step =
    subst (λ (d : Deed). IsStep a new nodes entries work d) (unless_null_known obj at request means rest h) step

-- of null it is a fault
pub null_step :
    (obj : ℕ) (at : Site) (request : Request) (m : Machine) (rest : ℕ → Means → Deed) (work : ℕ)
    → IsStanding m
    → obj ≡ 0
    → IsStep (Some (asked.End (Null at))) m m.nodes m.entries work (unless_null obj at request (means_of m) rest)
null_step obj at request m rest work standing e = record {
  becomes = ap (λ (o : ℕ). unless_null o at request (means_of m) rest) e;
  standing = standing;
  waits = tt;
  nodes_same = refl;
  entries_same = refl;
  smaller = λ n. absurd (cc);
}

-- a load is what a field means: of null its fault, else the word of the cell
pub field_known :
    (obj field : ℕ) (at : Site) (means : Means) (rest : ℕ → Means → Deed)
    → unless_null obj at (load obj field) means rest ≡ evaluating (field_of obj field at) means rest
field_known obj field at means rest = by (obj == 0)
  where
    by : (t : Bool)
        → ◌≡◌ {A = Deed} (elim t [ true ↦ ends (Null at) | false ↦ asking (load obj field) means rest ])
        (evaluating (if t then ends_in (fault.Null at) else read_cell obj field) means rest)
    by true = refl
    by false = refl

-- an object is made where there is room
pub new_known :
    (class : ℕ) (at : Site) (means : Means) (rest : ℕ → Means → Deed)
    → (means.room ≡ 0 → ⊥)
    → asking (make class) (record means { room = means.room - 1 }) rest ≡ new_deed class at means rest
new_known class at means rest h = by (means.room == 0) (ne_eqb means.room 0 h)
  where
    by : (t : Bool) → t ≡ false
        → ◌≡◌ {A = Deed} (asking (make class) (record means { room = means.room - 1 }) rest)
        (elim t [ true ↦ ends (HeapFull at) | false ↦ asking (make class) means (λ obj left. rest obj (record left { room = left.room - 1 })) ])
    by true e = absurd (cc)
    by false e = refl

-- what a machine asks for without these operands is what the machine with them asks for
pub event_step :
    (m popped : Machine) (ops : List ℕ) (takes : Bool) (next : Next) (a : Option Asked) (new : Machine) (request same : Request) (deed : Deed)
    → popped ≡ with_operands ops m
    → request ≡ same
    → asking same (means_of m) (λ reply left. going_in m next (told_operands takes reply ops) m.locals left (rest_of m)) ≡ deed
    → IsStep a new popped.nodes popped.entries (work_of popped)
    (asking request (means_of popped) (λ reply left. going_in popped next (told_operands takes reply popped.operands.items) popped.locals left (rest_of popped)))
    → IsStep a new m.nodes m.entries (work_of m) deed
event_step m popped ops takes next a new request same deed pops is known h =
    subst (λ (d : Deed). IsStep a new m.nodes m.entries (work_of m) d) known
    (subst (λ (r : Request). IsStep a new m.nodes m.entries (work_of m)
    (asking r (means_of m) (λ reply left. going_in m next (told_operands takes reply ops) m.locals left (rest_of m)))) is
    (subst (λ (x : Machine). IsStep a new x.nodes x.entries (work_of x)
    (asking request (means_of x) (λ reply left. going_in x next (told_operands takes reply x.operands.items) x.locals left (rest_of x)))) pops h))

-- the same of an event at a field of an object
pub field_event_step :
    (m popped : Machine) (ops : List ℕ) (takes : Bool) (next : Next) (a : Option Asked) (new : Machine) (at : Site) (obj same_obj : ℕ) (request same : Request)
    (deed : Deed)
    → popped ≡ with_operands ops m
    → obj ≡ same_obj
    → request ≡ same
    → unless_null same_obj at same (means_of m) (λ reply left. going_in m next (told_operands takes reply ops) m.locals left (rest_of m)) ≡ deed
    → IsStep a new popped.nodes popped.entries (work_of popped)
    (unless_null obj at request (means_of popped) (λ reply left. going_in popped next (told_operands takes reply popped.operands.items) popped.locals left (rest_of popped)))
    → IsStep a new m.nodes m.entries (work_of m) deed
field_event_step m popped ops takes next a new at obj same_obj request same deed pops o is known h =
    subst (λ (d : Deed). IsStep a new m.nodes m.entries (work_of m) d) known
    (subst (λ (x : ℕ). IsStep a new m.nodes m.entries (work_of m)
    (unless_null x at same (means_of m) (λ reply left. going_in m next (told_operands takes reply ops) m.locals left (rest_of m)))) o
    (subst (λ (r : Request). IsStep a new m.nodes m.entries (work_of m)
    (unless_null obj at r (means_of m) (λ reply left. going_in m next (told_operands takes reply ops) m.locals left (rest_of m)))) is
    (subst (λ (x : Machine). IsStep a new x.nodes x.entries (work_of x)
    (unless_null obj at request (means_of x) (λ reply left. going_in x next (told_operands takes reply x.operands.items) x.locals left (rest_of x)))) pops h)))
