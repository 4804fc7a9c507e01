-- Laid code does what the expressions and statements do
use Rattle.std.proofs.Common.{◌≡◌, ℕ, zero, suc, ◌+◌, ◌<◌, ◌≤◌, ◌==◌, Bool, true, false, List, [], ◌∷◌, ◌++◌, length, refl, sym, ◌∙◌, ap, subst, arith, ◌⊎◌, inl, inr, leb}
use Rattle.std.proofs.Common.{append_assoc, length-append, Option, Some, None}
use Rattle.std.specs.Prelude.{slice_get, slice_set, unwrap_or}
use Rattle.std.proofs.lemmas.List.{append-nil}
use Rattle.std.proofs.lemmas.Bool.Decides.{leb_tells}
use mathlib.Core.Path.{fun_ext}
use Rattle.st_events.specs.declared.events.Site.{Site}
use Rattle.st_check_meaning.specs.Courses.{Course, comes_to, ends_in, reads, uses_unit, and_then}
use Rattle.st_thread_meaning.specs.Deeds.{Request, load, Deed, Means}
use Rattle.st_thread_meaning.specs.Statements.{evaluating, ProcCalls}
use Rattle.st_thread_meaning.proofs.LoopLemmas.{asking_same}
use Rattle.st_mutator.specs.declared.nodes.Next.{Next}
use Rattle.st_mutator.specs.declared.nodes.Next.TheVariants.{At, Last}
use Rattle.st_mutator.specs.declared.nodes.Node.{Node}
use Rattle.st_mutator.specs.Running.{Rest, Meaning, node_meaning, nowhere, going, meanings_onto, code_meaning}
use Rattle.st_mutator.specs.Standing.{rank, places_of, AreBelow, AreOrdered}
use Rattle.st_mutator.specs.Laying.{Laid, put}
use Rattle.st_mutator.proofs.CodeLemmas.{onto_both, onto_length, onto_front, going_front, seam_get}

-- the nodes begin with those before
pub record Grows (old new : List Node) : Type 0 where
  pub more : List Node
  pub is : new ≡ old ++ more

-- nodes begin with themselves
pub grows_same : (nodes : List Node) → Grows nodes nodes
grows_same nodes = record { more = []; is = sym (append-nil nodes) }

-- what begins with nodes that begin with others begins with these
pub grows_both : (a b c : List Node) → Grows a b → Grows b c → Grows a c
grows_both a b c g h = record {
  more = g.more ++ h.more;
  is = h.is ∙ ap (λ (ns : List Node). ns ++ h.more) g.is ∙ append_assoc a g.more h.more;
}

-- nodes that begin with others are no fewer
pub grows_length : (a b : List Node) → Grows a b → length a ≤ length b
grows_length a b g = omega (arith, ap (λ (ns : List Node). length ns) g.is, length-append a g.more)

-- what comes at a place of the nodes before stays
pub grows_keeps :
    (a b : List Node) (next : Next)
    → Grows a b
    → rank next ≤ length a
    → (calls : ProcCalls)
    → code_meaning calls b next ≡ code_meaning calls a next
unfolding code_meaning
grows_keeps a b next g h calls =
    let front = meanings_onto calls [] a in
    let rest = onto_front calls front g.more in
    ap (λ (ns : List Node). going (meanings_onto calls [] ns) next) g.is
    ∙ ap (λ (ms : List Meaning). going ms next) (onto_both calls [] a g.more ∙ rest.1)
    ∙ going_front front rest.0 next (omega (arith, onto_length calls [] a, h))

-- a piece of code is laid behind nodes: they stay, all is in order, and from its first node on it means this
pub record IsLaid (laid : Laid) (nodes : List Node) (meaning : ProcCalls → Meaning) : Type 0 where
  pub grows : Grows nodes laid.nodes
  pub ordered : AreOrdered laid.nodes
  pub within : rank laid.first ≤ length laid.nodes
  pub means : (calls : ProcCalls) → code_meaning calls laid.nodes laid.first ≡ meaning calls

-- in order with one node more, which names places of those before
ordered_more : (nodes : List Node) (node : Node) → AreOrdered nodes → AreBelow (suc (length nodes)) (places_of node) → AreOrdered (nodes ++ node ∷ [])
ordered_more nodes node h places index found e = by nodes node h places index found e
  where
    last : (ns : List Node) (n : Node) (i : ℕ) (f : Node) → slice_get (ns ++ n ∷ []) i ≡ Some f → length ns ≤ i → (i ≡ length ns) × (f ≡ n)
    last [] n zero f k le = (refl, cc)
    last [] n (suc i) f k le = absurd (cc)
    last (x ∷ ns) n zero f k le = absurd (omega (arith, le))
    last (x ∷ ns) n (suc i) f k le = let r = last ns n i f k (omega (arith, le)) in (ap suc r.0, r.1)

    front : (ns : List Node) (n : Node) (i : ℕ) (f : Node) → slice_get (ns ++ n ∷ []) i ≡ Some f → i < length ns → slice_get ns i ≡ Some f
    front [] n i f k le = absurd (omega (arith, le))
    front (x ∷ ns) n zero f k le = k
    front (x ∷ ns) n (suc i) f k le = front ns n i f k (omega (arith, le))

    by : (ns : List Node) (n : Node) → AreOrdered ns → AreBelow (suc (length ns)) (places_of n) → (i : ℕ) (f : Node)
        → slice_get (ns ++ n ∷ []) i ≡ Some f → AreBelow (suc i) (places_of f)
    by ns n o p i f k = choose (leb_tells (length ns) i)
      where
        choose : ((leb (length ns) i ≡ true) × (length ns ≤ i)) ⊎ ((leb (length ns) i ≡ false) × (i < length ns)) → AreBelow (suc i) (places_of f)
        choose (inr lt) = o i f (front ns n i f k lt.1)
        choose (inl le) =
            let at = last ns n i f k le.1 in
            subst (λ (x : Node). AreBelow (suc i) (places_of x)) (sym at.1) (subst (λ (j : ℕ). AreBelow (suc j) (places_of n)) (sym at.0) p)

last_means :
    (calls : ProcCalls) (node : Node) (nodes : List Node)
    → code_meaning calls (nodes ++ node ∷ []) (At (length nodes)) ≡ node_meaning calls (code_meaning calls nodes) node
unfolding code_meaning
last_means calls node nodes =
    ap (λ (ms : List Meaning). going ms (At (length nodes))) (onto_both calls [] nodes (node ∷ []))
    ∙ ap (λ (o : Option Meaning). unwrap_or o nowhere)
    (seam_get (meanings_onto calls [] nodes) (node_meaning calls (going (meanings_onto calls [] nodes)) node) [] (length nodes) (omega (arith, onto_length calls [] nodes)))

-- one node more means what the node does
pub put_is_laid :
    (node : Node) (nodes : List Node)
    → AreOrdered nodes
    → AreBelow (suc (length nodes)) (places_of node)
    → IsLaid (put node nodes) nodes (λ calls. node_meaning calls (code_meaning calls nodes) node)
put_is_laid node nodes ordered places = record {
  grows = record { more = node ∷ []; is = refl };
  ordered = ordered_more nodes node ordered places;
  within = omega (arith, length-append nodes (node ∷ []));
  means = λ calls. last_means calls node nodes;
}

-- code in front of code
pub laid_before :
    (a b : Laid) (nodes : List Node) (inner : ProcCalls → Meaning) (outer : ProcCalls → Meaning → Meaning)
    → IsLaid a nodes inner
    → IsLaid b a.nodes (λ calls. outer calls (code_meaning calls a.nodes a.first))
    → IsLaid b nodes (λ calls. outer calls (inner calls))
laid_before a b nodes inner outer h k = record {
  grows = grows_both nodes a.nodes b.nodes h.grows k.grows;
  ordered = k.ordered;
  within = k.within;
  means = λ calls. k.means calls ∙ ap (λ (m : Meaning). outer calls m) (h.means calls);
}

-- what it means may be said in another way
pub laid_as :
    (a : Laid) (nodes : List Node) (meaning other : ProcCalls → Meaning)
    → IsLaid a nodes meaning
    → ((calls : ProcCalls) → meaning calls ≡ other calls)
    → IsLaid a nodes other
laid_as a nodes meaning other h same = record { grows = h.grows; ordered = h.ordered; within = h.within; means = λ calls. h.means calls ∙ same calls }

-- one course and then another: the reads of both, one after another
pub evaluating_then :
    {A B : Type 0} (c : Course A) (rest : A → Course B) (means : Means) (behind : B → Means → Deed)
    → evaluating (and_then c rest) means behind ≡ evaluating c means (λ x left. evaluating (rest x) left behind)
evaluating_then (comes_to x) rest means behind = refl
evaluating_then (ends_in fault) rest means behind = refl
evaluating_then (reads obj field next) rest means behind =
    asking_same (load obj field) means (λ word left. evaluating (and_then (next word) rest) left behind)
    (λ word left. evaluating (next word) left (λ x after. evaluating (rest x) after behind))
    (λ word left le. evaluating_then (next word) rest left behind)
evaluating_then (uses_unit next) rest means behind = evaluating_then (next tt) rest means behind

-- meanings that do the same are the same
pub same_meaning : (m k : Meaning) → ((ops locals : List ℕ) (means : Means) (rest : Rest) → m ops locals means rest ≡ k ops locals means rest) → m ≡ k
same_meaning m k h = fun_ext (λ ops. fun_ext (λ locals. fun_ext (λ means. fun_ext (λ rest. h ops locals means rest))))
