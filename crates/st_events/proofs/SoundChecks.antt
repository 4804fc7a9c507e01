-- Launches, active checks, stamps and pasts, kept by each legal event
use Rattle.std.proofs.Common.{◌≡◌, ℕ, ◌<◌, ◌==◌, cond, not, Bool, inl, inr, [], ◌∷◌, Option, Some, None, refl, sym, ◌∙◌, ap, subst, arith, IsSome}
use Rattle.std.specs.Option.{option_map}
use Rattle.std.proofs.lemmas.List.{length-append}
use Rattle.std.proofs.lemmas.Bool.Decides.{eqb_tells}
use Rattle.st_events.specs.Terms.{New, Launch, Retire, Args, Sizes, ShapeLists, Object, with_object, with_word, set_word, fresh, World, Launched, next, at}
use Rattle.st_events.specs.Terms.{changed, LegalLaunch}
use Rattle.st_events.specs.Sound.{AreLaunches, AreActive, AreStamps, ArePasts, AreFittingLaunches, IsFittingLaunch}
use Rattle.st_events.proofs.WorldLemmas.{at_same, at_other}
use Rattle.st_events.proofs.SoundHeap.{object_put_here, object_put_elsewhere, word_set_here, word_set_elsewhere}
use Rattle.st_events.proofs.AmongLemmas.{among_one_more, among_without, passing_are_no_more, passing_are_rising, one_more_is_rising}

-- ---- launches

-- a Launch is the next number
pub launch_keeps_launches :
    (shape : ShapeLists) (sizes : Sizes) (w : World) (m number site : ℕ) (args : Args)
    → AreLaunches w
    → LegalLaunch shape sizes w m number site args
    → AreLaunches (next shape sizes w (Launch m site number args))
launch_keeps_launches shape sizes w m number site args a l =
    let here : Launched = record { past = w.heap; thread = m; site = site; args = args } in
    record {
      launched = λ n low high. elim (eqb_tells n number) [
        | inl e ↦ (here, rw e.0 refl)
        | inr e ↦ (let old = a.launched n low (omega (arith, high, e.1, l.next_number)) in (old.0, at_other number (Some here) w.launched n e.1 ∙ old.1))
      ];
      only = λ n x h. elim (eqb_tells n number) [
        | inl e ↦ (omega (arith, e.1, l.next_number), omega (arith, e.1, l.next_number))
        | inr e ↦ (let old = a.only n x (sym (at_other number (Some here) w.launched n e.1) ∙ h) in (old.0, omega (arith, old.1)))
      ];
    }

-- ---- active checks

-- a Launch makes its check active, where a lane is idle
pub launch_keeps_active :
    (shape : ShapeLists) (sizes : Sizes) (w : World) (m number site : ℕ) (args : Args)
    → AreActive sizes w
    → LegalLaunch shape sizes w m number site args
    → AreActive sizes (next shape sizes w (Launch m site number args))
launch_keeps_active shape sizes w m number site args a l = record {
  lanes = omega (arith, l.lane, length-append w.active (number ∷ []));
  rising = one_more_is_rising w.active number a.rising (λ n h. omega (arith, (a.launched n h).1, l.next_number));
  launched = λ n h. elim (among_one_more w.active number n h) [
    | inl old ↦ ((a.launched n old).0, omega (arith, (a.launched n old).1))
    | inr e ↦ (omega (arith, e, l.next_number), omega (arith, e, l.next_number))
  ];
}

-- a Retire makes its check idle
pub retire_keeps_active :
    (shape : ShapeLists) (sizes : Sizes) (w : World) (m number : ℕ)
    → AreActive sizes w
    → AreActive sizes (next shape sizes w (Retire m number))
retire_keeps_active shape sizes w m number a = record {
  lanes = omega (arith, a.lanes, passing_are_no_more (λ n. not (n == number)) w.active);
  rising = passing_are_rising (λ n. not (n == number)) w.active a.rising;
  launched = λ n h. a.launched n (among_without number w.active n h).0;
}

-- ---- stamps

-- a New has the epoch as its stamp
pub new_keeps_stamps :
    (shape : ShapeLists) (sizes : Sizes) (w : World) (m obj class : ℕ)
    → AreStamps w
    → AreStamps (next shape sizes w (New m obj class))
new_keeps_stamps shape sizes w m obj class s = record {
  epoch = λ o. elim (eqb_tells o obj) [ inl e ↦ rw e.0 (omega arith) | inr e ↦ rw e.0 (s.epoch o) ];
  unmade = λ o h. elim (eqb_tells o obj) [
    | inl e ↦ (let f : Some (fresh shape class) ≡ None = sym (ap (with_object w.heap obj (fresh shape class)) e.1 ∙ object_put_here w.heap obj (fresh shape class)) ∙ h in cc)
    | inr e ↦ rw e.0 (s.unmade o (sym (object_put_elsewhere w.heap obj (fresh shape class) o e.1) ∙ h))
  ];
}

-- a change has it too
pub change_keeps_stamps :
    (sizes : Sizes) (w : World) (obj field value : ℕ)
    → IsSome (w.heap obj)
    → AreStamps w
    → AreStamps (changed sizes w obj field value)
change_keeps_stamps sizes w obj field value some s = record {
  epoch = λ o. elim (eqb_tells o obj) [ inl e ↦ rw e.0 (omega arith) | inr e ↦ rw e.0 (s.epoch o) ];
  unmade = λ o h. elim (eqb_tells o obj) [
    | inl e ↦ absurd (there (w.heap obj) some (sym (ap (with_word w.heap obj field value) e.1 ∙ word_set_here w.heap obj field value) ∙ h))
    | inr e ↦ rw e.0 (s.unmade o (sym (word_set_elsewhere w.heap obj field value o e.1) ∙ h))
  ];
}
  where
    there : (x : Option Object) → IsSome x → option_map (set_word field value) x ≡ None → ⊥
    there None i h = cc
    there (Some x) i h = cc

-- ---- pasts

-- a New changes no past
pub new_keeps_pasts :
    (shape : ShapeLists) (sizes : Sizes) (w : World) (m obj class : ℕ)
    → AreLaunches w
    → ArePasts w
    → ArePasts (next shape sizes w (New m obj class))
new_keeps_pasts shape sizes w m obj class a p = record {
  same = λ o n l h below. elim (eqb_tells o obj) [
    | inl e ↦ (let f : w.epoch < n = subst (λ (b : Bool). cond b w.epoch (w.stamp o) < n) e.0 below in absurd (omega (arith, f, (a.only n l h).1)))
    | inr e ↦ p.same o n l h (subst (λ (b : Bool). cond b w.epoch (w.stamp o) < n) e.0 below) ∙ sym (object_put_elsewhere w.heap obj (fresh shape class) o e.1)
  ];
}

-- nor does a change
pub change_keeps_pasts :
    (sizes : Sizes) (w : World) (obj field value : ℕ)
    → AreLaunches w
    → ArePasts w
    → ArePasts (changed sizes w obj field value)
change_keeps_pasts sizes w obj field value a p = record {
  same = λ o n l h below. elim (eqb_tells o obj) [
    | inl e ↦ (let f : w.epoch < n = subst (λ (b : Bool). cond b w.epoch (w.stamp o) < n) e.0 below in absurd (omega (arith, f, (a.only n l h).1)))
    | inr e ↦ p.same o n l h (subst (λ (b : Bool). cond b w.epoch (w.stamp o) < n) e.0 below) ∙ sym (word_set_elsewhere w.heap obj field value o e.1)
  ];
}

-- the past of a Launch is the heap as it stands
pub launch_keeps_pasts :
    (shape : ShapeLists) (sizes : Sizes) (w : World) (m number site : ℕ) (args : Args)
    → ArePasts w
    → ArePasts (next shape sizes w (Launch m site number args))
launch_keeps_pasts shape sizes w m number site args p =
    let here : Launched = record { past = w.heap; thread = m; site = site; args = args } in
    record {
      same = λ o n l h below. elim (eqb_tells n number) [
        | inl e ↦ (let f : Some here ≡ Some l = sym (ap (at number (Some here) w.launched) e.1 ∙ at_same number (Some here) w.launched) ∙ h in let g : here ≡ l =
            cc in ap (λ (x : Launched). x.past o) (sym g))
        | inr e ↦ p.same o n l (sym (at_other number (Some here) w.launched n e.1) ∙ h) below
      ];
    }

-- ---- what is known of launches fits

-- a Launch that is legal fits, and the others stay
pub launch_keeps_fitting :
    (shape : ShapeLists) (sizes : Sizes) (w : World) (m number site : ℕ) (args : Args)
    → AreFittingLaunches shape sizes w
    → LegalLaunch shape sizes w m number site args
    → AreFittingLaunches shape sizes (next shape sizes w (Launch m site number args))
launch_keeps_fitting shape sizes w m number site args f l = record {
  each = λ n x h. elim (eqb_tells n number) [
    | inl e ↦ of_this x (some x (sym (ap (at number (Some here) w.launched) e.1 ∙ at_same number (Some here) w.launched) ∙ h))
    | inr e ↦ f.each n x (sym (at_other number (Some here) w.launched n e.1) ∙ h)
  ];
}
  where
    here : Launched
    here = record { past = w.heap; thread = m; site = site; args = args }

    some : (x : Launched) → Some here ≡ Some x → here ≡ x
    some x e = cc

    of_this : (x : Launched) → here ≡ x → IsFittingLaunch shape sizes x
    of_this x e = subst (λ (y : Launched). IsFittingLaunch shape sizes y) e (record { thread = l.thread; statement = l.statement; arguments = l.arguments })
