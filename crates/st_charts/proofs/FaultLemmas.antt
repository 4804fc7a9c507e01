-- Where a chart faults: the tokens before begin a text, and with the next token they begin none.
use Rattle.std.proofs.Common.{◌≡◌, true, false, List, [], ◌∷◌, ◌++◌, Option, Some, None, option_map, map, refl, sym, ap, subst, ◌∙◌}
use Rattle.st_charts.specs.Charts.{Symbol, token, part, Grammar, next, choice_at, sort_of_next, Faults, whole, left_over, ends, fits, misfits, goes, stuck}
use Rattle.st_charts.specs.Checks.{Samples, IsChecked}
use Rattle.st_charts.specs.Texts.{IsText, IsFirst}
use Rattle.st_charts.proofs.ReadLemmas.{one_fault}
use Rattle.st_charts.proofs.SampleLemmas.{Finish, finish_token, choice_in, finish_reads, finish_choice, finish_start}

-- what is known of the rest at a fault, while symbols are asked for
record First {T K N : Type 0} (g : Grammar T K N) (ss : List (Symbol K N)) (ts rest : List T) : Type 0 where
  read : List T
  split : ts ≡ read ++ rest
  more : List T
  begins : Faults g ss (read ++ more) None
  again : (other : List T) → next other ≡ next rest → Faults g ss (read ++ other) (Some other)

abbrev Known : {T K N : Type 0} → Grammar T K N → List (Symbol K N) → List T → Option (List T) → Type 0
Known g ss ts None = Unit {0}
Known g ss ts (Some rest) = First g ss ts rest

next_append : {T : Type 0} (read other rest : List T) → next other ≡ next rest → next (read ++ other) ≡ next (read ++ rest)
next_append [] other rest e = e
next_append (t ∷ read) other rest e = refl

module _ {T K N : Type 0} (g : Grammar T K N) (s : Samples T K N) (start : N) (checked : IsChecked g s start) where
  given : {ss : List (Symbol K N)} {ws : List K} → Finish s ss ws → Faults g ss (map s.sample ws) None
  given h = finish_reads g s start checked h

  left_again : (t : T) (ts other : List T) → next other ≡ Some t → Faults g [] other (Some other)
  left_again t ts [] e = absurd cc
  left_again t ts (x ∷ xs) e = left_over

  ends_again : (k : K) (ss : List (Symbol K N)) (other : List T) → next other ≡ None → Faults g (token k ∷ ss) other (Some other)
  ends_again k ss [] e = ends
  ends_again k ss (x ∷ xs) e = absurd cc

  misfits_again : (k : K) (ss : List (Symbol K N)) (t : T) (other : List T) → g.same (g.sort t) k ≡ false → next other ≡ Some t → Faults g (token k ∷ ss) other (Some other)
  misfits_again k ss t [] f e = absurd cc
  misfits_again k ss t (x ∷ xs) f e =
      let same : t ≡ x = cc in
      misfits (subst (λ (y : T). g.same (g.sort y) k ≡ false) same f)

  -- the choice that was taken is taken again
  taken : (n : N) (ts read rest other : List T) (o : Option (List (Symbol K N))) → choice_at g n (sort_of_next g ts) ≡ o → ts ≡ read ++ rest → next other ≡ next rest
      → choice_at g n (sort_of_next g (read ++ other)) ≡ o
  taken n ts read rest other o e split same =
      let front : next (read ++ other) ≡ next ts = next_append read other rest same ∙ ap next (sym split) in
      ap (λ (z : Option T). choice_at g n (option_map g.sort z)) front ∙ e

  begun : (n : N) (c ss : List (Symbol K N)) (ts : List T) (rest : List T) (ws : List K) → choice_at g n (sort_of_next g ts) ≡ Some c → Finish s (part n ∷ ss) ws
      → (read : List T) → ts ≡ read ++ rest → (more : List T) → Faults g (c ++ ss) (read ++ more) None → (longer : List T) × Faults g (part n ∷ ss) (read ++ longer) None
  begun n c ss ts rest ws e w [] split more h = (map s.sample ws, given w)
  begun n c ss ts rest ws e w (t ∷ read) split more h =
      let front : next (t ∷ read ++ more) ≡ next ts = ap next (sym split) in
      (more, goes (ap (λ (z : Option T). choice_at g n (option_map g.sort z)) front ∙ e) h)

  through : (n : N) (c ss : List (Symbol K N)) (ts : List T) (o : Option (List T)) (ws : List K) → choice_at g n (sort_of_next g ts) ≡ Some c → Finish s (part n ∷ ss) ws
      → Known g (c ++ ss) ts o
      → Known g (part n ∷ ss) ts o
  through n c ss ts None ws e w k = tt
  through n c ss ts (Some rest) ws e w k =
      let longer = begun n c ss ts rest ws e w k.read k.split k.more k.begins in
      record {
        read = k.read;
        split = k.split;
        more = longer.0;
        begins = longer.1;
        again = λ other same. goes (taken n ts k.read rest other (Some c) e k.split same) (k.again other same);
      }

  onward : (k : K) (ss : List (Symbol K N)) (t : T) (ts : List T) (o : Option (List T)) → g.same (g.sort t) k ≡ true → Known g ss ts o → Known g (token k ∷ ss) (t ∷ ts) o
  onward k ss t ts None e h = tt
  onward k ss t ts (Some rest) e h = record {
    read = t ∷ h.read;
    split = ap (λ (xs : List T). t ∷ xs) h.split;
    more = h.more;
    begins = fits e h.begins;
    again = λ other same. fits e (h.again other same);
  }

  at_once : (ss : List (Symbol K N)) (ts : List T) (ws : List K) → Finish s ss ws → ((other : List T) → next other ≡ next ts → Faults g ss other (Some other)) → First g ss ts ts
  at_once ss ts ws w again = record { read = []; split = refl; more = map s.sample ws; begins = given w; again = again }

  after_token : {k : K} {ss : List (Symbol K N)} {ws : List K} → Finish s (token k ∷ ss) ws → (more : List K) × Finish s ss more
  after_token (finish_token {ws = ws} h) = (ws, h)

  known : {ss : List (Symbol K N)} {ts : List T} {o : Option (List T)} → Faults g ss ts o → (ws : List K) → Finish s ss ws → Known g ss ts o
  known whole ws w = tt
  known (left_over {t = t} {ts = ts}) ws w = at_once [] (t ∷ ts) ws w (left_again t ts)
  known (ends {k = k} {ss = ss}) ws w = at_once (token k ∷ ss) [] ws w (ends_again k ss)
  known (fits {k = k} {ss = ss} {t = t} {ts = ts} {o = o} e h) ws w =
      let more = after_token w in
      onward k ss t ts o e (known h more.0 more.1)
  known (misfits {k = k} {ss = ss} {t = t} {ts = ts} e) ws w = at_once (token k ∷ ss) (t ∷ ts) ws w (λ other same. misfits_again k ss t other e same)
  known (goes {n = n} {c = c} {ss = ss} {ts = ts} {o = o} e h) ws w =
      let more = finish_choice g s start checked c (choice_in g n (sort_of_next g ts) c e) w in
      through n c ss ts o ws e w (known h more.0 more.1)
  known (stuck {n = n} {ss = ss} {ts = ts} e) ws w = at_once (part n ∷ ss) ts ws w (λ other same. stuck (taken n ts [] ts other None e refl same))

  no_text : (start : N) (read other : List T) → Faults g (part start ∷ []) (read ++ other) (Some other) → IsText g start (read ++ other) → ⊥
  no_text start read other h text = let clash = one_fault g h text in absurd cc

  pub first_fault : (ts rest : List T) → Faults g (part start ∷ []) ts (Some rest) → IsFirst g start ts rest
  first_fault ts rest h =
      let k : First g (part start ∷ []) ts rest = known h (s.words start ++ []) (finish_start g s start checked) in
      record { read = k.read; split = k.split; more = k.more; begins = k.begins; ends = λ other same. no_text start k.read other (k.again other same) }
