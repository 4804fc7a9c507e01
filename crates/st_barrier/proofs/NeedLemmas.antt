-- What a mutator loads of the board, and which checks it then knows to need an old version.
use Rattle.std.proofs.Common.{◌≡◌, ◌≢◌, ℕ, zero, suc, ◌+◌, ◌<◌, ◌≤◌, nat_lt, nat_le, Bool, true, false, if◌then◌else◌, inl, inr, List, []}
use Rattle.std.proofs.Common.{◌∷◌, Some, sym, refl, ap, subst, ◌∙◌, arith, eq-eqb, ne_eqb}
use Rattle.std.specs.Prelude.{IsSome, slice_index, slice_set, length, unwrap_or}
use Rattle.std.proofs.lemmas.List.{get_or-set_same, get_or-set_other}
use mathlib.Core.Logic.{dite}
use native.Mathlib.Decide.{ℕ_discrete}
use Rattle.std.proofs.lemmas.Bool.Decides.{nat_tests}
use Rattle.st_layout.specs.declared.plans.Plan.{Plan}
use Rattle.st_layout.specs.Layout.{word_of, words_of}
use Rattle.st_layout.specs.Names.{WordName, HasWord, EpochWord, AvailableWord, LaneWord, FreeWord}
use Rattle.st_layout.proofs.Bounds.{words_below}
use Rattle.st_layout.proofs.Distinct.{words_distinct}
use Rattle.st_rule.proofs.BoardLemmas.{plan_fits}
use Rattle.st_rule.specs.declared.views.Held.{Held}
use Rattle.st_rule.specs.declared.views.LoadedWord.{LoadedWord}
use Rattle.st_rule.specs.declared.views.MutView.{MutView}
use Rattle.st_rule.specs.declared.views.Phase.TheVariants.{Inside}
use Rattle.st_rule.specs.Board.{plan_of, stays_loaded}
use Rattle.st_rule.specs.Draws.{MayLoadBoard}
use Rattle.st_rule.specs.Holding.{word_loaded}
use Rattle.st_rule.specs.Needs.{lane_loaded, lanes_above, knows_none, is_at_most, is_any}
use Rattle.st_rule.specs.Plays.{FindsBoard, IsBoardWord}
use Rattle.st_rule.specs.SeatValue.{SeatValue, IsFairView}
use Rattle.st_rule.specs.Seats.{IsSameSeat, IsFair}
use Rattle.st_rule.specs.Turns.{board_loaded}
use Rattle.st_barrier.specs.Hands.{HasEpoch, KeepsEpoch}
use Rattle.st_barrier.specs.Keeping.{HasLoadedWord, LoadsPlace, LoadsWord, LoadsNeed, HasNeed, KnowsChecks, KnowsNoNeed, HasLaunchSince, lanes_in}
use Rattle.st_barrier.proofs.HandLemmas.{stays_by}

-- ---- one word

some_is : (a b : ℕ) → Some a ≡ Some b → a ≡ b
some_is a b e = cc

-- a seat that is inside may load the epoch, the length of the free list, a lane or an entry of the free list
pub may_load_word :
    (v : MutView) (name : WordName) (place : ℕ) → IsFairView v → v.gate.phase ≡ Inside → HasWord (plan_of v.terms.sizes) name → stays_loaded Inside name ≡ true
    → place ≡ word_of (plan_of v.terms.sizes) name → MayLoadBoard v place
may_load_word v name place fair inside has stays is = record {
  within = subst (λ k. k < words_of (plan_of v.terms.sizes)) (sym is) (words_below (plan_of v.terms.sizes) (plan_fits v.terms.sizes fair.sizes_fit) name has);
  allowed = inl (inside, name, has, stays, is);
}

module _ (before after : SeatValue) (same : IsSameSeat before after) (place result : ℕ) (finds : FindsBoard place before.view after.view)
    (found : after.view.tally.found ≡ Some result) where
  word_is : finds.word ≡ result
  word_is = some_is finds.word result (sym (ap (λ (v : MutView). v.tally.found) finds.view) ∙ found)

  pub place_loaded : LoadsPlace place result before after
  place_loaded = record {
    stays = stays_by before after (board_loaded place finds.word before.view) same finds.view refl refl refl refl;
    held = ap (λ (v : MutView). v.held) finds.view;
    board = ap (λ (v : MutView). v.board.loaded) finds.view ∙ ap (λ w. record { word = place; value = w } ∷ before.view.board.loaded) word_is;
  }

  pub place_fits : IsBoardWord before.view.terms.sizes place result
  place_fits = subst (λ w. IsBoardWord before.view.terms.sizes place w) word_is finds.fits

-- the word of this name was loaded
pub word_named :
    (before after : SeatValue) (name : WordName) (place word : ℕ) → place ≡ word_of (plan_of before.view.terms.sizes) name → LoadsPlace place word before after
    → LoadsWord name word before after
word_named before after name place word is loads =
    let more : List LoadedWord = record { word = place; value = word } ∷ before.view.board.loaded in
    record {
      stays = loads.stays;
      held = loads.held;
      loaded =
          (λ i. word_loaded (loads.board i) (word_of (plan_of (loads.stays.terms i).sizes) name))
          ∙ ap (word_loaded (record { word = place; value = word } ∷ before.view.board.loaded)) (sym is)
          ∙ ap (λ b. if b then Some word else word_loaded before.view.board.loaded place) (eq-eqb place place refl);
      others = λ other ne. ap (λ l. word_loaded l other) loads.board
          ∙ ap (λ b. if b then Some word else word_loaded before.view.board.loaded other) (ne_eqb place other (λ e. ne (sym e ∙ is)));
    }

-- another word is known as before
pub other_known :
    (name other : WordName) (before after : SeatValue) (word w : ℕ) → LoadsWord name word before after
    → word_of (plan_of before.view.terms.sizes) other ≢ word_of (plan_of before.view.terms.sizes) name
    → HasLoadedWord other w before → HasLoadedWord other w after
other_known name other before after word w loads ne known =
    (λ i. word_loaded after.view.board.loaded (word_of (plan_of (loads.stays.terms i).sizes) other))
    ∙ loads.others (word_of (plan_of before.view.terms.sizes) other) ne ∙ known

-- ---- words apart

module _ (seat : SeatValue) (fair : IsFair seat) where
  abbrev plan : Plan
  plan = plan_of seat.view.terms.sizes

  apart : (a b : WordName) → HasWord plan a → HasWord plan b → a ≢ b → word_of plan a ≢ word_of plan b
  apart a b has_a has_b ne same = ne (words_distinct plan (plan_fits seat.view.terms.sizes fair.sizes_fit) a b has_a has_b same)

  pub lanes_apart : (a b : ℕ) → a < seat.view.terms.sizes.lanes → b < seat.view.terms.sizes.lanes → a ≢ b → word_of plan (LaneWord a) ≢ word_of plan (LaneWord b)
  lanes_apart a b in_a in_b ne = apart (LaneWord a) (LaneWord b) in_a in_b (λ e. ne (lane_is e))
    where
      lane_is : LaneWord a ≡ LaneWord b → a ≡ b
      lane_is e = cc

  pub epoch_lane : (b : ℕ) → b < seat.view.terms.sizes.lanes → word_of plan EpochWord ≢ word_of plan (LaneWord b)
  epoch_lane b in_b = apart EpochWord (LaneWord b) tt in_b (λ e. cc)

  pub epoch_available : word_of plan EpochWord ≢ word_of plan AvailableWord
  epoch_available = apart EpochWord AvailableWord tt tt (λ e. cc)

  pub epoch_free : (i : ℕ) → i < seat.view.terms.sizes.copies → word_of plan EpochWord ≢ word_of plan (FreeWord i)
  epoch_free i within = apart EpochWord (FreeWord i) tt within (λ e. cc)

  pub lane_available : (a : ℕ) → a < seat.view.terms.sizes.lanes → word_of plan (LaneWord a) ≢ word_of plan AvailableWord
  lane_available a in_a = apart (LaneWord a) AvailableWord in_a tt (λ e. cc)

  pub lane_free : (a i : ℕ) → a < seat.view.terms.sizes.lanes → i < seat.view.terms.sizes.copies → word_of plan (LaneWord a) ≢ word_of plan (FreeWord i)
  lane_free a i in_a within = apart (LaneWord a) (FreeWord i) in_a within (λ e. cc)

  pub available_free : (i : ℕ) → i < seat.view.terms.sizes.copies → word_of plan AvailableWord ≢ word_of plan (FreeWord i)
  available_free i within = apart AvailableWord (FreeWord i) tt within (λ e. cc)

-- ---- lanes

-- a test on numbers that says less is right
pub lt_true : (a b : ℕ) → nat_lt a b ≡ true → a < b
lt_true a b e = grind (arith, nat_tests)

-- and one that says not less is right
pub lt_false : (a b : ℕ) → nat_lt a b ≡ false → b ≤ a
lt_false a b e = grind (arith, nat_tests)

-- what is less, the test says
pub true_lt : (a b : ℕ) → a < b → nat_lt a b ≡ true
true_lt a b lt = grind (arith, nat_tests)

-- what is not less, the test says
pub not_lt : (a b : ℕ) → b ≤ a → nat_lt a b ≡ false
not_lt a b le = grind (arith, nat_tests)

true_le : (a b : ℕ) → a ≤ b → nat_le a b ≡ true
true_le a b le = grind (arith, nat_tests)

not_le : (a b : ℕ) → b < a → nat_le a b ≡ false
not_le a b lt = grind (arith, nat_tests)

-- a lane that was loaded keeps its need while another is loaded
pub need_stays :
    (stamp need lane other word : ℕ) (before after : SeatValue) → IsFair before
    → lane < before.view.terms.sizes.lanes → other < before.view.terms.sizes.lanes → lane ≢ other
    → LoadsWord (LaneWord other) word before after → HasNeed stamp need lane before → HasNeed stamp need lane after
need_stays stamp need lane other word before after fair in_lane in_other ne loads has = record {
  check = has.check;
  loaded = other_known (LaneWord other) (LaneWord lane) before after word has.check loads (lanes_apart before fair lane other in_lane in_other ne) has.loaded;
  need_is = has.need_is;
}

-- a load of a lane leaves what is known of the epoch
pub lane_keeps_epoch :
    (lane word : ℕ) (before after : SeatValue) → IsFair before → lane < before.view.terms.sizes.lanes → LoadsWord (LaneWord lane) word before after → KeepsEpoch before after
lane_keeps_epoch lane word before after fair within loads epoch known =
    other_known (LaneWord lane) EpochWord before after word epoch loads (epoch_lane before fair lane within) known

-- a lane needs the version exactly where its check is above the stamp
need_above : (stamp check : ℕ) → (b : Bool) → nat_lt stamp check ≡ b → nat_lt 0 (if b then check else 0) ≡ b
need_above stamp check true above = let lt = lt_true stamp check above in true_lt 0 check (omega (arith, lt))
need_above stamp check false above = refl

need_some : (stamp check : ℕ) → (b : Bool) → nat_lt stamp check ≡ b → 0 < (if b then check else 0) → (if b then check else 0) ≡ check
need_some stamp check true above some = refl
need_some stamp check false above some = absurd (omega (arith, some))

module _ (stamp : ℕ) (checks : List ℕ) (seat : SeatValue) where
  abbrev its_plan : Plan
  its_plan = plan_of seat.view.terms.sizes

  lanes_same :
      (count : ℕ) → ((lane : ℕ) → lane < count → HasNeed stamp (slice_index checks lane) lane seat)
      → lanes_above (plan_of seat.view.terms.sizes) seat.view.board.loaded stamp count ≡ lanes_in checks count
  lanes_same zero needs = refl
  lanes_same (suc n) needs =
      let need = needs n (omega arith) in
      let rest = lanes_same n (λ lane lt. needs lane (omega (arith, lt))) in
      let found : lane_loaded (plan_of seat.view.terms.sizes) seat.view.board.loaded n ≡ need.check = ap (λ o. unwrap_or o 0) need.loaded in
      let test : nat_lt 0 (slice_index checks n) ≡ nat_lt stamp need.check =
      ap (nat_lt 0) need.need_is ∙ need_above stamp need.check (nat_lt stamp need.check) refl in
      (λ i. if nat_lt stamp (found i) then n ∷ rest i else rest i) ∙ ap (λ b. if b then n ∷ lanes_in checks n else lanes_in checks n) (sym test)

  -- every lane was loaded, and some check was launched after the stamp
  pub all_known :
      HasLaunchSince stamp seat → ((lane : ℕ) → lane < seat.view.terms.sizes.lanes → HasNeed stamp (slice_index checks lane) lane seat)
      → KnowsChecks stamp checks seat
  all_known launched needs = record {
    lanes = λ h stamp_is.
        let none : knows_none seat.view h ≡ false =
        (λ i. is_at_most (launched.loaded i) (stamp_is i)) ∙ not_le launched.epoch stamp launched.above in
        ap (λ b. if b then [] else lanes_above (plan_of seat.view.terms.sizes) seat.view.board.loaded h.stamp seat.view.terms.sizes.lanes) none
        ∙ ap (λ s. lanes_above (plan_of seat.view.terms.sizes) seat.view.board.loaded s seat.view.terms.sizes.lanes) stamp_is
        ∙ lanes_same seat.view.terms.sizes.lanes needs;
    known = λ h stamp_is. inl (λ lane lt. subst IsSome (sym (needs lane lt).loaded) refl);
    loaded = λ lane lt some.
        let need = needs lane lt in
        let is : slice_index checks lane ≡ need.check =
        need.need_is ∙ need_some stamp need.check (nat_lt stamp need.check) refl (subst (λ k. 0 < k) need.need_is some) in
        need.loaded ∙ ap Some (sym is);
  }

-- no check was launched since
pub none_known : (stamp : ℕ) (seat : SeatValue) (epoch : ℕ) → HasEpoch epoch seat → epoch ≤ stamp → KnowsNoNeed stamp seat
none_known stamp seat epoch known within =
    let none : (h : Held) → h.stamp ≡ stamp → knows_none seat.view h ≡ true = λ h stamp_is. (λ i. is_at_most (known i) (stamp_is i)) ∙ true_le epoch stamp within in
    record {
      none = λ h stamp_is. ap (λ b. if b then [] else lanes_above (plan_of seat.view.terms.sizes) seat.view.board.loaded h.stamp seat.view.terms.sizes.lanes) (none h stamp_is);
      known = λ h stamp_is. inr (none h stamp_is);
    }

-- ---- whether any lane needs it

-- a lane more finds what fewer find
any_step : (n : ℕ) (rest : List ℕ) (b : Bool) → is_any rest ≡ true → is_any (if b then n ∷ rest else rest) ≡ true
any_step n rest true some = refl
any_step n rest false some = some

-- where some lane below a count needs the version, some lane below a larger count does
pub any_more : (checks : List ℕ) (k count : ℕ) → k ≤ count → is_any (lanes_in checks k) ≡ true → is_any (lanes_in checks count) ≡ true
any_more checks k zero le some = subst (λ j. is_any (lanes_in checks j) ≡ true) (let e : k ≡ 0 = omega (arith, le) in e) some
any_more checks k (suc n) le some = dite (ℕ_discrete k (suc n))
    (λ same. subst (λ j. is_any (lanes_in checks j) ≡ true) same some)
    (λ other. any_step n (lanes_in checks n) (nat_lt 0 (slice_index checks n)) (any_more checks k n (below k n le other) some))
  where
    below : (k n : ℕ) → k ≤ suc n → k ≢ suc n → k ≤ n
    below k n le ne = grind arith

-- one more is the next number
pub plus_one : (n : ℕ) → n + 1 ≡ suc n
plus_one n = omega arith

-- a lane that needs it is found
pub any_here : (checks : List ℕ) (lane : ℕ) → 0 < slice_index checks lane → is_any (lanes_in checks (lane + 1)) ≡ true
any_here checks lane some =
    ap (λ k. is_any (lanes_in checks k)) (plus_one lane)
    ∙ ap (λ b. is_any (if b then lane ∷ lanes_in checks lane else lanes_in checks lane)) (true_lt 0 (slice_index checks lane) some)

-- one that does not adds none
pub none_here : (checks : List ℕ) (lane : ℕ) → slice_index checks lane ≤ 0 → lanes_in checks lane ≡ [] → lanes_in checks (lane + 1) ≡ []
none_here checks lane none rest =
    ap (lanes_in checks) (plus_one lane)
    ∙ ap (λ b. if b then lane ∷ lanes_in checks lane else lanes_in checks lane) (not_lt 0 (slice_index checks lane) none) ∙ rest

-- a list without any is empty
none_of : (lanes : List ℕ) → is_any lanes ≡ false → lanes ≡ []
none_of [] e = refl
none_of (n ∷ ns) e = absurd cc

-- none of the checks that the seat knows needs it
pub none_found : (stamp : ℕ) (checks : List ℕ) (seat : SeatValue) → KnowsChecks stamp checks seat → is_any (lanes_in checks seat.view.terms.sizes.lanes) ≡ false → KnowsNoNeed stamp seat
none_found stamp checks seat knows none = record {
  none = λ h stamp_is. knows.lanes h stamp_is ∙ none_of (lanes_in checks seat.view.terms.sizes.lanes) none;
  known = knows.known;
}

-- a launch since the stamp stays known
pub launch_stays :
    (stamp : ℕ) (before after : SeatValue) → KeepsEpoch before after → HasLaunchSince stamp before → HasLaunchSince stamp after
launch_stays stamp before after keeps launched = record { epoch = launched.epoch; loaded = keeps launched.epoch launched.loaded; above = launched.above }

-- one need more
pub need_more :
    (stamp : ℕ) (checks : List ℕ) (lane need : ℕ) (before after : SeatValue) → IsFair before → lane < length checks → lane < before.view.terms.sizes.lanes
    → LoadsNeed stamp need lane before after
    → ((other : ℕ) → other < lane → HasNeed stamp (slice_index checks other) other before)
    → (other : ℕ) → other < lane + 1 → HasNeed stamp (slice_index (slice_set checks lane need) other) other after
need_more stamp checks lane need before after fair within in_lane loads needs other lt = dite (ℕ_discrete other lane)
    (λ same. subst (λ k. HasNeed stamp (slice_index (slice_set checks lane need) k) k after) (sym same)
    (record { check = loads.check; loaded = loads.loads.loaded; need_is = get_or-set_same checks lane need 0 within ∙ loads.need_is }))
    (λ ne.
    let below : other < lane = under other lane lt ne in
    subst (λ n. HasNeed stamp n other after) (sym (get_or-set_other checks lane other need 0 ne))
    (need_stays stamp (slice_index checks other) other lane loads.check before after fair (omega (arith, below, in_lane)) in_lane ne loads.loads (needs other below)))
  where
    under : (a b : ℕ) → a < b + 1 → a ≢ b → a < b
    under a b lt ne = grind arith
