-- What is read is spelled: readers put together.
use Rattle.std.proofs.Common.{◌≡◌, ℕ, zero, suc, Bool, true, false, not, if◌then◌else◌, nat_lt, List, [], ◌∷◌, ◌++◌, length, Option, Some, None, is_some, Result, Ok, Err, refl}
use Rattle.std.proofs.Common.{sym, ap, subst, ◌∙◌, append_assoc, append-nil}
use Rattle.st_grammar.specs.declared.sorts.Sort.{Sort}
use Rattle.st_grammar.specs.Sorts.{same_sort}
use Rattle.st_grammar.specs.Terminals.{Terminal, Is, next_sort}
use Rattle.st_grammar_laws.specs.Reading.{Outcome, Reader, and_then, ◌>>=◌, ◌>>◌, pure, ◌<$>◌, refuse, peek, sees, see, take_any, expect, if_shorter, turns_from, turns, one_more, many}
use Rattle.st_grammar_laws.specs.Reading.{is_sort, listed, enclosed}
use Rattle.st_grammar.proofs.SortLemmas.{sort_means}

-- the front of the terminals spells what was read
pub record Spelled {A : Type 0} (Is_spelled : List Terminal → A → Type 0) (ts : List Terminal) (x : A) (rest : List Terminal) : Type 0 where
  pub front : List Terminal
  pub split : ts ≡ front ++ rest
  pub spells : Is_spelled front x

-- where a reader succeeds, the tokens that it took spell what it made
abbrev pub Sound : {A : Type 0} → (List Terminal → A → Type 0) → List Terminal → Outcome A → Type 0
Sound P ts (Ok p) = Spelled P ts p.0 p.1
Sound P ts (Err rest) = Unit {0}

-- what is read after a front
abbrev pub After : {A : Type 0} → List Terminal → (List Terminal → A → Type 0) → List Terminal → A → Type 0
After front P = λ ts x. P (front ++ ts) x

-- nothing is read for what no tokens spell
abbrev pub sound_pure : {A : Type 0} (P : List Terminal → A → Type 0) (ts : List Terminal) (x : A) → P [] x → Spelled P ts x ts
sound_pure P ts x h = record { front = []; split = refl; spells = h }

one_and_one : {A B : Type 0} (P : List Terminal → A → Type 0) (R : List Terminal → B → Type 0) (ts : List Terminal) (p : A × List Terminal) (o : Outcome B) (s : Spelled P ts p.0 p.1)
    → Sound (After s.front R) p.1 o → Sound R ts o
one_and_one P R ts p (Ok q) s h =
    record { front = s.front ++ h.front; split = s.split ∙ ap (λ (l : List Terminal). s.front ++ l) h.split ∙ sym (append_assoc s.front h.front q.1); spells = h.spells }
one_and_one P R ts p (Err rest) s h = tt

-- something, and then something
pub sound_then : {A B : Type 0} (P : List Terminal → A → Type 0) (R : List Terminal → B → Type 0) (ts : List Terminal) (o : Outcome A) (f : A → Reader B) → Sound P ts o
    → ((front us : List Terminal) (x : A) → P front x → Sound (After front R) us (f x us)) → Sound R ts (and_then o f)
sound_then P R ts (Ok p) f s h = one_and_one P R ts p (f p.0 p.1) s (h s.front p.1 p.0 s.spells)
sound_then P R ts (Err rest) f s h = tt

-- something, of which something is made
pub sound_map : {A B : Type 0} (P : List Terminal → A → Type 0) (R : List Terminal → B → Type 0) (ts : List Terminal) (o : Outcome A) (f : A → B) → Sound P ts o
    → ((front : List Terminal) (x : A) → P front x → R front (f x)) → Sound R ts (and_then o (λ x. pure (f x)))
sound_map P R ts (Ok p) f s h = record { front = s.front; split = s.split; spells = h s.front p.0 s.spells }
sound_map P R ts (Err rest) f s h = tt

-- what is read soundly in one sense is so in each wider one
pub sound_weaken : {A : Type 0} (P R : List Terminal → A → Type 0) (ts : List Terminal) (o : Outcome A) → Sound P ts o → ((front : List Terminal) (x : A) → P front x → R front x)
    → Sound R ts o
sound_weaken P R ts (Ok p) s h = record { front = s.front; split = s.split; spells = h s.front p.0 s.spells }
sound_weaken P R ts (Err rest) s h = tt

-- the next terminal, and then something
pub sound_take : {B : Type 0} (R : List Terminal → B → Type 0) (ts : List Terminal) (f : Terminal → Reader B)
    → ((t : Terminal) (us : List Terminal) → ts ≡ t ∷ us → Sound (After (t ∷ []) R) us (f t us)) → Sound R ts (and_then (take_any ts) f)
unfolding take_any
sound_take R [] f h = tt
sound_take R (t ∷ ts) f h =
    one_and_one (λ front x. front ≡ x ∷ []) R (t ∷ ts) (t, ts) (f t ts) (record { front = t ∷ []; split = refl; spells = refl }) (h t ts refl)

-- the next terminal of the sort, and then something
expected : {B : Type 0} (sort : Sort) (R : List Terminal → B → Type 0) (t : Terminal) (ts : List Terminal) (f : Terminal → Reader B) (b : Bool) → same_sort t.sort sort ≡ b
    → ((t : Terminal) (us : List Terminal) → Is sort t → Sound (After (t ∷ []) R) us (f t us)) → Sound R (t ∷ ts) (and_then (if b then Ok (t, ts) else Err (t ∷ ts)) f)
expected sort R t ts f true e h =
    one_and_one (λ front x. front ≡ x ∷ []) R (t ∷ ts) (t, ts) (f t ts) (record { front = t ∷ []; split = refl; spells = refl }) (h t ts (record { same = sort_means t.sort sort e }))
expected sort R t ts f false e h = tt

-- a token of the expected sort, and then something
pub sound_expect : {B : Type 0} (sort : Sort) (R : List Terminal → B → Type 0) (ts : List Terminal) (f : Terminal → Reader B)
    → ((t : Terminal) (us : List Terminal) → Is sort t → Sound (After (t ∷ []) R) us (f t us)) → Sound R ts (and_then (expect sort ts) f)
unfolding expect
sound_expect sort R [] f h = tt
sound_expect sort R (t ∷ ts) f h = expected sort R t ts f (same_sort t.sort sort) refl h

-- one turn after another
module _ {A : Type 0} (asks : Sort → Bool) (turn : A → Reader A) (P : List Terminal → A → Type 0)
    (one : (front us : List Terminal) (x : A) → P front x → Sound (After front P) us (turn x us)) where
  if_fewer : (R : List Terminal → A → Type 0) (us : List Terminal) (r : Reader A) (b : Bool) → Sound R us (r us) → Sound R us (if b then r us else Err us)
  if_fewer R us r true h = h
  if_fewer R us r false h = tt

  if_asked : (front us : List Terminal) (x : A) (o : Outcome A) (b : Bool) → P front x → Sound (After front P) us o → Sound (After front P) us (if b then o else Ok (x, us))
  if_asked front us x o true p h = h
  if_asked front us x o false p h = record { front = []; split = refl; spells = subst (λ (l : List Terminal). P l x) (sym (append-nil front)) p }

  pub sound_turns_from : (n : ℕ) (front us : List Terminal) (x : A) → P front x → Sound (After front P) us (turns_from asks turn n x us)
  unfolding turns_from
  sound_turns_from n front [] x p = record { front = []; split = refl; spells = subst (λ (l : List Terminal). P l x) (sym (append-nil front)) p }
  sound_turns_from zero front (t ∷ ts) x p = tt
  sound_turns_from (suc n) front (t ∷ ts) x p =
      if_asked front (t ∷ ts) x (and_then (turn x (t ∷ ts)) (λ y. if_shorter (t ∷ ts) (turns_from asks turn n y))) (asks t.sort) p
      (sound_then (After front P) (After front P) (t ∷ ts) (turn x (t ∷ ts)) (λ y. if_shorter (t ∷ ts) (turns_from asks turn n y)) (one front (t ∷ ts) x p)
      (λ more us y q. if_fewer (After more (After front P)) us (turns_from asks turn n y) (nat_lt (length us) (length (t ∷ ts)))
      (sound_weaken (After (front ++ more) P) (After more (After front P)) us (turns_from asks turn n y us) (sound_turns_from n (front ++ more) us y q)
      (λ later z r. subst (λ (l : List Terminal). P l z) (append_assoc front more later) r))))

  pub sound_turns : (front us : List Terminal) (x : A) → P front x → Sound (After front P) us (turns asks turn x us)
  unfolding turns
  sound_turns front us x p = sound_turns_from (length us) front us x p
