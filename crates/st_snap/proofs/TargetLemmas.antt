-- What a forwarding word means, while other things change
use Rattle.std.proofs.Common.{◌≡◌, ◌≢◌, ℕ, ◌<◌, ◌≤◌, ◌⊎◌, cond, Bool, true, false, inl, inr, List, ◌++◌, map, slice_get, Option, refl}
use Rattle.std.proofs.Common.{sym, ◌∙◌, ap, arith, nat_lt}
use Rattle.std.specs.List.{Contains}
use Rattle.std.proofs.lemmas.Bool.Decides.{eqb_tells}
use Rattle.st_snap.specs.Terms.{Sizes, Object, World, Pair, is_lost, needing_in}
use Rattle.st_events.specs.World.{is_full, lost_at_change}
use Rattle.st_events.proofs.AmongLemmas.{among_passing}
use Rattle.st_events.proofs.LegalEvents.{is_below}
use Rattle.st_events.proofs.KeptLemmas.{lost_in_either, lost_in_front, lost_by_pairs}
use Rattle.st_snap.specs.declared.headers.Forward.{Forward}
use Rattle.st_snap.specs.declared.headers.Header.{Header}
use Rattle.st_snap.specs.declared.headers.Target.{Target}
use Rattle.st_snap.specs.declared.headers.Target.TheVariants.{Copied, Gone}
use Rattle.st_snap.specs.Pool.{PoolVersions, KeptVersion}
use Rattle.st_snap.specs.Table.{adjust, stamped}
use Rattle.st_snap.specs.Represents.{IsTargetOf, IsForwardAt}
use Rattle.st_snap.proofs.AnyLemmas.{bool_same}
use Rattle.st_snap.proofs.ListLemmas.{adjusted_elsewhere, adjusted_stood_before}

-- a target means the same where its copy stays, and the pair is lost or not as before
pub target_is_kept :
    (lost lost' : List Pair) (pool pool' : PoolVersions) (obj n : ℕ) (past : Option Object) (target : Target)
    → is_lost lost' obj n ≡ is_lost lost obj n
    → pool'.size ≡ pool.size
    → ((kept : KeptVersion) → kept.version.after < n → n ≤ kept.version.upto → Contains pool.versions kept → Contains pool'.versions kept)
    → IsTargetOf lost pool obj n past target
    → IsTargetOf lost' pool' obj n past target
target_is_kept lost lost' pool pool' obj n past Gone same size stays t = same ∙ t
target_is_kept lost lost' pool pool' obj n past (Copied copy) same size stays t = (
  rw size t.0,
  record {
    kept = t.1.kept;
    among = stays t.1.kept t.1.after t.1.upto t.1.among;
    object = t.1.object;
    after = t.1.after;
    upto = t.1.upto;
    number = t.1.number;
    words = t.1.words;
  },
  same ∙ t.2,
)

-- a change loses no version of another object, nor one for a check that was launched before the stamp
pub lost_for_others_stays :
    (sizes : Sizes) (w : World) (obj o n : ℕ)
    → (o ≢ obj) ⊎ (n ≤ w.stamp obj)
    → is_lost (lost_at_change sizes w obj) o n ≡ is_lost w.lost o n
lost_for_others_stays sizes w obj o n other = cases (is_full sizes w)
  where
    not_lost : is_lost (map (λ k. record { obj = obj; check = k }) (needing_in w obj)) o n ≡ true → ⊥
    not_lost h =
        let p = lost_by_pairs obj (needing_in w obj) o n h in
        let above = is_below (w.stamp obj) n (among_passing (λ k. nat_lt (w.stamp obj) k) w.active n p.1).1 in
        elim other [ inl ne ↦ ne (sym p.0) | inr le ↦ omega (arith, above, le) ]

    cases : (b : Bool) → is_lost (cond b (w.lost ++ map (λ k. record { obj = obj; check = k }) (needing_in w obj)) w.lost) o n ≡ is_lost w.lost o n
    cases false = refl
    cases true = bool_same (is_lost (w.lost ++ map (λ k. record { obj = obj; check = k }) (needing_in w obj)) o n) (is_lost w.lost o n)
        (λ h. elim (lost_in_either w.lost (map (λ k. record { obj = obj; check = k }) (needing_in w obj)) o n h) [ inl l ↦ l | inr r ↦ absurd (not_lost r) ])
        (λ h. lost_in_front w.lost (map (λ k. record { obj = obj; check = k }) (needing_in w obj)) o n h)

-- a stamp changes no forwarding word
pub stamping_keeps_forwards :
    (epoch : ℕ) (headers : List Header) (obj o lane : ℕ) (f : Forward)
    → IsForwardAt (adjust (stamped epoch) headers obj) o lane f
    → IsForwardAt headers o lane f
stamping_keeps_forwards epoch headers obj o lane f a = elim (eqb_tells o obj) [
  | inl s ↦ (let b = adjusted_stood_before (stamped epoch) headers obj a.header (ap (slice_get (adjust (stamped epoch) headers obj)) (sym s.1) ∙ a.found) in
      record { header = b.0; found = ap (slice_get headers) s.1 ∙ b.1; forward = ap (λ (h : Header). slice_get h.forward lane) (sym b.2) ∙ a.forward })
  | inr s ↦ record { header = a.header; found = sym (adjusted_elsewhere (stamped epoch) headers obj o s.1) ∙ a.found; forward = a.forward }
]
