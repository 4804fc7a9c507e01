-- Readers and the chart: what each reads, and where it stops.
use Rattle.std.proofs.Common.{◌≡◌, ℕ, zero, suc, ◌+◌, ◌≤◌, ◌<◌, Bool, true, false, cond, ◌||◌, if◌then◌else◌, nat_lt, List, [], ◌∷◌, ◌++◌, length}
use Rattle.std.proofs.Common.{Option, Some, None, Result, Ok}
use Rattle.std.proofs.Common.{Err, refl, ap, sym, ◌∙◌, subst, arith, length-append}
use Rattle.std.proofs.lemmas.Bool.{lt-ltb}
use Rattle.st_grammar.specs.declared.sorts.Sort.{Sort}
use Rattle.st_grammar.specs.declared.sorts.Sort.TheVariants as sort
use Rattle.st_grammar.specs.Sorts.{same_sort}
use Rattle.st_grammar.specs.Terminals.{Terminal, Is, next_sort}
use Rattle.st_grammar_laws.specs.Reading.{Outcome, Reader, and_then, ◌>>=◌, ◌>>◌, pure, ◌<$>◌, sees, take_any, expect, if_shorter, turns_from, turns, one_more, many, is_sort, listed, enclosed}
use Rattle.st_charts.specs.Charts.{Symbol, token, part, choice_at, sort_of_next, goes}
use Rattle.st_charts.specs.Reads.{Goes, Stops, FollowsChart}
use Rattle.st_charts.proofs.ReaderLemmas.{goes_nowhere, stops_first, reads_on, reads_part, stops_stuck, goes_token, stops_token, stops_end}
use Rattle.st_grammar_laws.proofs.Chart.{Part, Symbols, grammar}
use Rattle.st_grammar_laws.proofs.ChoiceLemmas.{chosen, at_next}
use Rattle.st_grammar.proofs.SortLemmas.{sort_means, sort_self}
use Rattle.st_grammar_laws.proofs.SoundLemmas.{Spelled, Sound}

-- a reader of these symbols answers so
abbrev pub Follows : {A : Type 0} → Symbols → List Terminal → Outcome A → Type 0
Follows cs ts o = FollowsChart grammar cs ts o

-- some symbols, and then more
pub follows_then : {A B : Type 0} (cs ds : Symbols) (ts : List Terminal) (o : Outcome A) (f : A → Reader B) → Follows cs ts o
    → ((x : A) (us : List Terminal) → o ≡ Ok (x, us) → Follows ds us (f x us))
    → Follows (cs ++ ds) ts (and_then o f)
follows_then cs ds ts (Ok p) f a h = reads_on grammar cs ds ts p.1 (f p.0 p.1) a (h p.0 p.1 refl)
follows_then cs ds ts (Err rest) f a h = stops_first grammar cs ds ts rest a

-- some symbols, of which something is made
pub follows_map : {A B : Type 0} (cs : Symbols) (ts : List Terminal) (o : Outcome A) (f : A → B) → Follows cs ts o → Follows cs ts (and_then o (λ x. pure (f x)))
follows_map cs ts (Ok p) f a = a
follows_map cs ts (Err rest) f a = a

-- for no symbols no tokens are taken
pub stays : (ts : List Terminal) → Goes grammar [] ts ts
stays ts = goes_nowhere grammar ts

-- a choice that one sort tells
pub told_yes : {A : Type 0} (b : Bool) (x y : A) → b ≡ true → cond (b || false) x y ≡ x
told_yes true x y e = refl
told_yes false x y e = absurd cc

-- the other choice, where that sort is not the next
pub told_no : {A : Type 0} (b : Bool) (x y : A) → b ≡ false → cond (b || false) x y ≡ y
told_no true x y e = absurd cc
told_no false x y e = refl

-- the next terminal of the sort, and then more symbols
expected : {B : Type 0} (s : Sort) (ds : Symbols) (t : Terminal) (ts : List Terminal) (f : Terminal → Reader B) (b : Bool) → same_sort t.sort s ≡ b → (Is s t → Follows ds ts (f t ts))
    → Follows (token s ∷ ds) (t ∷ ts) (and_then (if b then Ok (t, ts) else Err (t ∷ ts)) f)
expected s ds t ts f true e h = reads_on grammar (token s ∷ []) ds (t ∷ ts) ts (f t ts) (goes_token grammar s t ts e) (h (record { same = sort_means t.sort s e }))
expected s ds t ts f false e h = stops_first grammar (token s ∷ []) ds (t ∷ ts) (t ∷ ts) (stops_token grammar s t ts e)

-- the next token is expected to be of the sort, and then more symbols
pub follows_expect : {B : Type 0} (s : Sort) (ds : Symbols) (ts : List Terminal) (f : Terminal → Reader B)
    → ((t : Terminal) (us : List Terminal) → ts ≡ t ∷ us → Is s t → Follows ds us (f t us))
    → Follows (token s ∷ ds) ts (and_then (expect s ts) f)
unfolding expect
follows_expect s ds [] f h = stops_first grammar (token s ∷ []) ds [] [] (stops_end grammar s)
follows_expect s ds (t ∷ ts) f h = expected s ds t ts f (same_sort t.sort s) refl (h t ts refl)

-- the next terminal, which is seen to be of the sort, and then more symbols
pub follows_take : {B : Type 0} (s : Sort) (ds : Symbols) (ts : List Terminal) (f : Terminal → Reader B) → next_sort ts ≡ s → same_sort s sort.Other ≡ false
    → ((t : Terminal) (us : List Terminal) → ts ≡ t ∷ us → Is s t → Follows ds us (f t us)) → Follows (token s ∷ ds) ts (and_then (take_any ts) f)
unfolding take_any
follows_take s ds [] f e n h = stops_first grammar (token s ∷ []) ds [] [] (stops_end grammar s)
follows_take s ds (t ∷ ts) f e n h =
    reads_on grammar (token s ∷ []) ds (t ∷ ts) ts (f t ts) (goes_token grammar s t ts (subst (λ (x : Sort). same_sort x s ≡ true) (sym e) (sort_self s))) (h t ts refl (record { same = e }))

-- the choice of a part that the next sort tells
pub follows_part : {A : Type 0} (n : Part) (c : Symbols) (ts : List Terminal) (o : Outcome A) → chosen n (next_sort ts) ≡ Some c → Follows c ts o → Follows (part n ∷ []) ts o
follows_part n c ts o e h = reads_part grammar n c ts o (at_next n ts ∙ e) h

-- the chart stops where no choice of a part fits the next token
pub follows_none : (n : Part) (ts : List Terminal) → chosen n (next_sort ts) ≡ None → Stops grammar (part n ∷ []) ts ts
follows_none n ts e = stops_stuck grammar n ts (at_next n ts ∙ e)

-- the choice of nothing
pub stays_part : (n : Part) (ts : List Terminal) → chosen n (next_sort ts) ≡ Some [] → Goes grammar (part n ∷ []) ts ts
stays_part n ts e = let h : Goes grammar [] ts ts = stays ts in record { shorter = omega arith; on = λ ss o f. goes (at_next n ts ∙ e) f }

-- ---- loops

-- words, at least one, of which something holds
pub record Used (Q : List Terminal → Type 0) (ts : List Terminal) : Type 0 where
  pub first : Terminal
  pub others : List Terminal
  pub split : first ∷ others ≡ ts
  pub holds : Q ts

module _ {A : Type 0} (asks : Sort → Bool) (turn : A → Reader A) (tail : Part) (symbols : Sort → Symbols) (W Q : List Terminal → Type 0)
    (goes_on : (s : Sort) → asks s ≡ true → chosen tail s ≡ Some (symbols s ++ part tail ∷ []))
    (ends : (s : Sort) → asks s ≡ false → chosen tail s ≡ Some [])
    (nothing : chosen tail sort.Other ≡ Some [])
    (one : (x : A) (t : Terminal) (ts : List Terminal) → W (t ∷ ts) → asks t.sort ≡ true → Follows (symbols t.sort) (t ∷ ts) (turn x (t ∷ ts)))
    (sound : (x : A) (t : Terminal) (ts : List Terminal) → Sound (λ ws y. Used Q ws) (t ∷ ts) (turn x (t ∷ ts)))
    (onward : (ws us : List Terminal) → Q ws → W (ws ++ us) → W us) where
  ended : (ts : List Terminal) (x : A) → chosen tail (next_sort ts) ≡ Some [] → Follows (part tail ∷ []) ts (let o : Outcome A = Ok (x, ts) in o)
  ended ts x e = follows_part tail [] ts (Ok (x, ts)) e (stays ts)

  asked : (x : A) (t : Terminal) (ts : List Terminal) (b : Bool) (o : Outcome A) → asks t.sort ≡ b → (asks t.sort ≡ true → Follows (part tail ∷ []) (t ∷ ts) o)
      → Follows (part tail ∷ []) (t ∷ ts) (if b then o else Ok (x, t ∷ ts))
  asked x t ts true o e h = h e
  asked x t ts false o e h = ended (t ∷ ts) x (ends t.sort e)

  -- after a turn fewer are left
  left : (t : Terminal) (ts : List Terminal) (o : Outcome A) (y : A) (us : List Terminal) → o ≡ Ok (y, us) → Sound (λ ws y. Used Q ws) (t ∷ ts) o → W (t ∷ ts)
      → (length us < length (t ∷ ts)) × W us
  left t ts o y us e s w =
      let spelled : Spelled (λ ws y. Used Q ws) (t ∷ ts) y us = subst (λ (p : Outcome A). Sound (λ ws y. Used Q ws) (t ∷ ts) p) e s in
      let used : Used Q spelled.front = spelled.spells in
      let long : length (t ∷ ts) ≡ length spelled.front + length us = ap length spelled.split ∙ length-append spelled.front us in
      let some : suc (length used.others) ≡ length spelled.front = ap length used.split in
      (omega arith, onward spelled.front us used.holds (subst W spelled.split w))

  pub follows_turns_from : (n : ℕ) (x : A) (ts : List Terminal) → length ts ≤ n → W ts → Follows (part tail ∷ []) ts (turns_from asks turn n x ts)
  unfolding turns_from
  follows_turns_from n x [] few w = ended [] x nothing
  follows_turns_from zero x (t ∷ ts) few w = absurd (omega arith)
  follows_turns_from (suc n) x (t ∷ ts) few w =
      asked x t ts (asks t.sort) (and_then (turn x (t ∷ ts)) (λ y. if_shorter (t ∷ ts) (turns_from asks turn n y))) refl
      (λ e. follows_part tail (symbols t.sort ++ part tail ∷ []) (t ∷ ts) (and_then (turn x (t ∷ ts)) (λ y. if_shorter (t ∷ ts) (turns_from asks turn n y))) (goes_on t.sort e)
      (follows_then (symbols t.sort) (part tail ∷ []) (t ∷ ts) (turn x (t ∷ ts)) (λ y. if_shorter (t ∷ ts) (turns_from asks turn n y)) (one x t ts w e)
      (λ y us h. let less = left t ts (turn x (t ∷ ts)) y us h (sound x t ts) w in
      subst (λ (b : Bool). Follows (part tail ∷ []) us (if b then turns_from asks turn n y us else Err us)) (sym (lt-ltb (length us) (length (t ∷ ts)) less.0))
      (follows_turns_from n y us (omega (arith, less.0)) less.1))))

  pub follows_turns : (x : A) (ts : List Terminal) → W ts → Follows (part tail ∷ []) ts (turns asks turn x ts)
  unfolding turns
  follows_turns x ts w = follows_turns_from (length ts) x ts (omega arith) w
