-- Readers put together.
use Rattle.std.proofs.Common.{◌≡◌, true, false, List, [], ◌∷◌, ◌++◌, Some, None, Result, Ok, Err, sym, subst, append_assoc, arith}
use Rattle.st_charts.specs.Charts.{Symbol, token, part, Grammar, choice_at, sort_of_next, Faults, ends, fits, misfits, goes, stuck}
use Rattle.st_charts.specs.Reads.{Goes, Stops, FollowsChart}

module _ {T K N : Type 0} (g : Grammar T K N) where
  -- nothing is read
  pub goes_nowhere : (ts : List T) → Goes g [] ts ts
  goes_nowhere ts = record { shorter = omega arith; on = λ ss o h. h }

  -- symbols, then more symbols
  pub goes_on : (cs ds : List (Symbol K N)) (ts us rest : List T) → Goes g cs ts us → Goes g ds us rest → Goes g (cs ++ ds) ts rest
  goes_on cs ds ts us rest a b = record {
    shorter = omega (arith, a.shorter, b.shorter);
    on = λ ss o h. subst (λ (x : List (Symbol K N)). Faults g x ts o) (sym (append_assoc cs ds ss)) (a.on (ds ++ ss) o (b.on ss o h));
  }

  pub stops_first : (cs ds : List (Symbol K N)) (ts rest : List T) → Stops g cs ts rest → Stops g (cs ++ ds) ts rest
  stops_first cs ds ts rest a = record { at = λ ss. subst (λ (x : List (Symbol K N)). Faults g x ts (Some rest)) (sym (append_assoc cs ds ss)) (a.at (ds ++ ss)) }

  pub stops_later : (cs ds : List (Symbol K N)) (ts us rest : List T) → Goes g cs ts us → Stops g ds us rest → Stops g (cs ++ ds) ts rest
  stops_later cs ds ts us rest a b = record {
    at = λ ss. subst (λ (x : List (Symbol K N)). Faults g x ts (Some rest)) (sym (append_assoc cs ds ss)) (a.on (ds ++ ss) (Some rest) (b.at ss));
  }

  -- after symbols that are read, the reader of more symbols
  pub reads_on : {A : Type 0} (cs ds : List (Symbol K N)) (ts us : List T) (r : Result (A × List T) (List T)) → Goes g cs ts us → FollowsChart g ds us r → FollowsChart g (cs ++ ds) ts r
  reads_on cs ds ts us (Ok x) a b = goes_on cs ds ts us x.1 a b
  reads_on cs ds ts us (Err rest) a b = stops_later cs ds ts us rest a b

  -- the choice of the part that the next token tells
  pub reads_part : {A : Type 0} (n : N) (c : List (Symbol K N)) (ts : List T) (r : Result (A × List T) (List T)) → choice_at g n (sort_of_next g ts) ≡ Some c
      → FollowsChart g c ts r → FollowsChart g (part n ∷ []) ts r
  reads_part n c ts (Ok x) e a = record { shorter = a.shorter; on = λ ss o h. goes e (a.on ss o h) }
  reads_part n c ts (Err rest) e a = record { at = λ ss. goes e (a.at ss) }

  pub stops_stuck : (n : N) (ts : List T) → choice_at g n (sort_of_next g ts) ≡ None → Stops g (part n ∷ []) ts ts
  stops_stuck n ts e = record { at = λ ss. stuck e }

  -- a token
  pub goes_token : (k : K) (t : T) (ts : List T) → g.same (g.sort t) k ≡ true → Goes g (token k ∷ []) (t ∷ ts) ts
  goes_token k t ts e = record { shorter = omega arith; on = λ ss o h. fits e h }

  pub stops_token : (k : K) (t : T) (ts : List T) → g.same (g.sort t) k ≡ false → Stops g (token k ∷ []) (t ∷ ts) (t ∷ ts)
  stops_token k t ts e = record { at = λ ss. misfits e }

  pub stops_end : (k : K) → Stops g (token k ∷ []) [] []
  stops_end k = record { at = λ ss. ends }
