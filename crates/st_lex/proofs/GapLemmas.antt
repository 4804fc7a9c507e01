-- Blanks and comments before an offset: gaps grow and shrink by the piece at their front.
use Rattle.std.proofs.Common.{◌≡◌, ℕ, ◌+◌, ◌-◌, ◌<◌, ◌≤◌, true, false, not, ◌⊎◌, inl, inr, List, [], ◌∷◌}
use Rattle.std.proofs.Common.{length, drop, get_or, refl, ap, ◌∙◌, subst, arith, IsTrue}
use Rattle.std.specs.Prelude.{slice_index}
use Rattle.std.specs.List.{prefix_len}
use Rattle.std.proofs.lemmas.Bool.{true≢false, false≢true, not-true, and_parts, eqb-true, cases_lt}
use Rattle.std.proofs.lemmas.List.{get_or-drop, length-drop}
use Rattle.std.proofs.lemmas.List.Sums.{prefix_len_passes, prefix_len_stops}
use Rattle.st_lex.specs.Bytes.{is_newline, is_blank, is_comment_byte, opens_comment}
use Rattle.st_lex.specs.Tokens.{InComment, IsGap}
use Rattle.st_lex.proofs.PieceLemmas.{GapForm, Solid}

-- a byte of the rest of a text
pub byte_at : (text : List ℕ) (offset k : ℕ) → offset ≤ k → slice_index (drop offset text) (k - offset) ≡ slice_index text k
byte_at text offset k below =
    let e : offset + (k - offset) ≡ k = omega arith in
    get_or-drop offset text (k - offset) 0 ∙ ap (λ n. get_or text n 0) e

-- the first byte of the rest of a text
pub first_at : (text : List ℕ) (offset : ℕ) → slice_index (drop offset text) 0 ≡ slice_index text offset
first_at text offset = let e : offset + 0 ≡ offset = omega arith in get_or-drop offset text 0 0 ∙ ap (λ n. get_or text n 0) e

-- a comment does not begin with a blank
no_blank_opens : (z : List ℕ) → opens_comment z ≡ true → is_blank (slice_index z 0) ≡ true → ⊥
no_blank_opens [] opens blank = false≢true opens
no_blank_opens (a ∷ []) opens blank = false≢true opens
no_blank_opens (a ∷ b ∷ z) opens blank =
    let slash : a ≡ 47 = eqb-true a 47 (and_parts _ _ opens).0 in
    false≢true (subst (λ x. is_blank x ≡ true) slash blank)

-- a comment that began later began earlier, too
weaker : {text : List ℕ} (from later offset : ℕ) → from ≤ later → InComment text later offset → InComment text from offset
weaker from later offset before c = record {
  start = c.start;
  after = (let after = c.after in omega arith);
  before = c.before;
  opens = c.opens;
  open_still = c.open_still;
}

-- the bytes of a comment at the front
in_run : (text : List ℕ) (offset len k : ℕ) → len ≡ prefix_len is_comment_byte (drop offset text) → offset ≤ k → k < offset + len
    → is_newline (slice_index text k) ≡ false
in_run text offset len k run from below =
    let within : k - offset < prefix_len is_comment_byte (drop offset text) = omega arith in
    let passes = prefix_len_passes is_comment_byte (drop offset text) (k - offset) 0 within in
    subst (λ b. is_newline b ≡ false) (byte_at text offset k from) (not-true (is_newline (slice_index (drop offset text) (k - offset))) passes)

-- the newline that ends it
after_run : (text : List ℕ) (offset len : ℕ) → len ≡ prefix_len is_comment_byte (drop offset text) → offset + len < length text
    → is_newline (slice_index text (offset + len)) ≡ true
after_run text offset len run within =
    let short : prefix_len is_comment_byte (drop offset text) < length (drop offset text) = omega (arith, length-drop offset text) in
    let stops = prefix_len_stops is_comment_byte (drop offset text) 0 short in
    let here : slice_index (drop offset text) (prefix_len is_comment_byte (drop offset text)) ≡ slice_index text (offset + len) =
    (let e : prefix_len is_comment_byte (drop offset text) ≡ offset + len - offset = omega arith in
    ap (λ n. get_or (drop offset text) n 0) e ∙ byte_at text offset (offset + len) (omega arith)) in
    let ends : is_comment_byte (slice_index text (offset + len)) ≡ false = subst (λ b. is_comment_byte b ≡ false) here stops in
    newline (slice_index text (offset + len)) ends
  where
    newline : (b : ℕ) → is_comment_byte b ≡ false → is_newline b ≡ true
    newline b h = elim (is_newline b) as (λ t. not t ≡ false → t ≡ true) [ true ↦ λ e. refl | false ↦ λ e. absurd (true≢false e) ] h

-- no gap
pub gap_none : (text : List ℕ) (offset : ℕ) → offset ≤ length text
    → (offset < length text → opens_comment (drop offset text) ≡ false) → IsGap text offset offset
gap_none text offset within closed = record {
  forward = omega arith;
  within = within;
  filled = λ k from below. absurd (omega arith);
  closed = λ inside c.
      (let after = c.after in let before = c.before in
      let e : c.start ≡ offset = omega arith in
      true≢false (rw (← c.opens) (rw e (closed inside))));
}

-- where a gap is no gap, since its first byte is no blank and begins no comment
pub gap_ends : (text : List ℕ) (from to : ℕ) → Solid (drop from text) → IsGap text from to → to ≡ from
gap_ends text from to solid gap = stop (cases_lt from to)
  where
    begins : from < to → IsTrue (is_blank (slice_index text from)) ⊎ InComment text from from → ⊥
    begins below (inl blank) = true≢false (rw (← blank) (rw (← first_at text from) solid.no_blank))
    begins below (inr c) =
        let after = c.after in let before = c.before in
        let e : c.start ≡ from = omega arith in
        true≢false (rw (← c.opens) (rw e solid.no_comment))

    stop : (from < to) ⊎ (to ≤ from) → to ≡ from
    stop (inl below) = absurd (begins below (gap.filled from (omega arith) below))
    stop (inr above) = let forward = gap.forward in omega arith

-- ---- a blank or a comment before a gap

module _ (text : List ℕ) (from len to : ℕ) (some : 1 ≤ len) (within : from + len ≤ length text) where
  -- a comment that began at the front ends there
  front_comment : GapForm (drop from text) len → (offset : ℕ) → from + len ≤ offset → offset < length text
      → (c : InComment text from offset) → c.start < from + len → ⊥
  front_comment (inl blank) offset beyond inside c early =
      let after = c.after in
      let size = blank.0 in
      let e : c.start ≡ from = omega arith in
      no_blank_opens (drop from text) (subst (λ s. opens_comment (drop s text) ≡ true) e c.opens) blank.1
  front_comment (inr comment) offset beyond inside c early =
      true≢false (rw (← after_run text from len comment.0 (omega arith)) (c.open_still (from + len) (omega arith) beyond))

  later : GapForm (drop from text) len → (offset : ℕ) → from + len ≤ offset → offset < length text → InComment text from offset
      → InComment text (from + len) offset
  later form offset beyond inside c = split (cases_lt c.start (from + len))
    where
      split : (c.start < from + len) ⊎ (from + len ≤ c.start) → InComment text (from + len) offset
      split (inl early) = absurd (front_comment form offset beyond inside c early)
      split (inr late) = record { start = c.start; after = late; before = c.before; opens = c.opens; open_still = c.open_still }

  -- the bytes of the front
  front_filled : GapForm (drop from text) len → (offset : ℕ) → from ≤ offset → offset < from + len
      → IsTrue (is_blank (slice_index text offset)) ⊎ InComment text from offset
  front_filled (inl blank) offset begun below =
      let size = blank.0 in
      let e : from ≡ offset = omega arith in
      inl (subst (λ p. is_blank (slice_index text p) ≡ true) e (rw (← first_at text from) blank.1))
  front_filled (inr comment) offset begun below = inr (record {
    start = from;
    after = omega arith;
    before = begun;
    opens = comment.1;
    open_still = λ k above up_to. in_run text from len k comment.0 above (omega arith);
  })

  pub gap_onto : GapForm (drop from text) len → IsGap text (from + len) to → IsGap text from to
  gap_onto form gap = record {
    forward = (let forward = gap.forward in omega arith);
    within = gap.within;
    filled = λ offset begun below. by_place offset begun below (cases_lt offset (from + len));
    closed = λ inside c. gap.closed inside (later form to gap.forward inside c);
  }
    where
      by_place : (offset : ℕ) → from ≤ offset → offset < to → (offset < from + len) ⊎ (from + len ≤ offset)
          → IsTrue (is_blank (slice_index text offset)) ⊎ InComment text from offset
      by_place offset begun below (inl early) = front_filled form offset begun early
      by_place offset begun below (inr late) = elim (gap.filled offset late below) [
        | inl blank ↦ inl blank
        | inr c ↦ inr (weaker from (from + len) offset (omega arith) c)
      ]

  -- the gap goes on past the front
  reaches : GapForm (drop from text) len → IsGap text from to → (to < length text → is_blank (slice_index text to) ≡ false)
      → from + len ≤ to
  reaches form gap begins = by_end (cases_lt to (from + len))
    where
      early : to < from + len → IsTrue (is_blank (slice_index text to)) ⊎ InComment text from to → ⊥
      early short (inl blank) = true≢false (rw (← blank) (begins (omega arith)))
      early short (inr c) = gap.closed (omega arith) c

      by_end : (to < from + len) ⊎ (from + len ≤ to) → from + len ≤ to
      by_end (inl short) = absurd (early short (front_filled form to gap.forward short))
      by_end (inr enough) = enough

  pub gap_off : GapForm (drop from text) len → IsGap text from to → (to < length text → is_blank (slice_index text to) ≡ false)
      → IsGap text (from + len) to
  gap_off form gap begins = record {
    forward = reaches form gap begins;
    within = gap.within;
    filled = λ offset begun below. (elim (gap.filled offset (omega arith) below) [
      | inl blank ↦ inl blank
      | inr c ↦ inr (later form offset begun (let within = gap.within in omega arith) c)
    ]);
    closed = λ inside c. gap.closed inside (weaker from (from + len) to (omega arith) c);
  }
