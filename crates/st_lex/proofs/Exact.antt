-- What is read of a text is what the definition of its tokens says, and nothing else is.
use Rattle.std.proofs.Common.{◌≡◌, ℕ, zero, suc, ◌+◌, ◌-◌, ◌<◌, ◌≤◌, true, false, List, [], ◌∷◌, ◌⊎◌, inl, inr}
use Rattle.std.proofs.Common.{length, take, drop, refl, ap, sym, ◌∙◌, subst, arith}
use Rattle.std.specs.Prelude.{Result, Ok, Err, Option, Some, None, slice_index, slice_range}
use Rattle.std.specs.List.{AllByRecursion}
use Rattle.std.proofs.lemmas.Bool.{true≢false, cases_lt, cases_order}
use Rattle.std.proofs.lemmas.List.{length-drop, drop_more}
use Rattle.st_lex.specs.Terms.{Site, Token, TokenKind, Fault, Piece, LARGEST_NUMBER}
use Rattle.st_lex.specs.Terms.fault
use Rattle.st_lex.specs.Terms.piece
use Rattle.st_lex.specs.Bytes.{is_newline, is_blank}
use Rattle.st_lex.specs.Places.{place_at}
use Rattle.st_lex.specs.Spellings.{is_number, is_spelling, decimal, HasForm}
use Rattle.st_lex.specs.Tokens.{IsLongest, IsToken, AreTokensApart, IsTokensOf, IsBadByte, IsLongNumber, HasFault, IsFaultOf}
use Rattle.st_lex.specs.Reading.{Stop, front_piece, token_at, with_first, reads_on, read_tokens}
use Rattle.st_lex.proofs.PieceLemmas.{NoLonger, Stands, GapForm, TokenForm, LongForm, WrongForm, Solid, Means, newline_blank}
use Rattle.st_lex.proofs.FormLemmas.{one_kind, spelled, number_spelled, no_long_token, spelled_no_blank}
use Rattle.st_lex.proofs.GapLemmas.{first_at, gap_none, gap_ends, gap_onto, gap_off}
use Rattle.st_lex.proofs.ReadLemmas.{reading, reading_all, reading_end, reading_step, piece_means}

-- ---- slices of a text as fronts of its rest

slice_is : (text : List ℕ) (offset len : ℕ) → slice_range text offset (offset + len) ≡ take len (drop offset text)
slice_is text offset len = let e : offset + len - offset ≡ len = omega arith in ap (λ n. take n (drop offset text)) e

longest_to : (text : List ℕ) (offset len : ℕ) → NoLonger (drop offset text) len → IsLongest text offset (offset + len)
longest_to text offset len longest more beyond within = longest (more - offset) (omega arith) (omega (arith, length-drop offset text))

longest_from : (text : List ℕ) (offset end : ℕ) → offset ≤ end → IsLongest text offset end
    → NoLonger (drop offset text) (end - offset)
longest_from text offset end forward longest more beyond within =
    let inside : offset + more ≤ length text = omega (arith, length-drop offset text) in
    subst (λ bytes. is_spelling bytes ≡ false) (slice_is text offset more) (longest (offset + more) (omega arith) inside)

-- two longest spellings at one offset are equally long
one_length : (z : List ℕ) (m n : ℕ) → m ≤ length z → n ≤ length z → is_spelling (take m z) ≡ true → is_spelling (take n z) ≡ true
    → NoLonger z m → NoLonger z n → m ≡ n
one_length z m n m_in n_in m_spelled n_spelled m_longest n_longest = elim (cases_order m n) [
  | inl same ↦ same
  | inr (inl less) ↦ absurd (true≢false (rw (← n_spelled) (m_longest n less n_in)))
  | inr (inr more) ↦ absurd (true≢false (rw (← m_spelled) (n_longest m more m_in)))
]

-- ---- the end of what is spelled

-- where the tokens end: the end of the text, or an offset with a fault
abbrev EndsAs : List ℕ → ℕ → Option Fault → Type 0
EndsAs text to None = to ≡ length text
EndsAs text to (Some f) = HasFault text to f

abbrev result_of : List Token → ℕ → Option Fault → Result (List Token) Stop
result_of tokens to None = Ok tokens
result_of tokens to (Some f) = Err (record { offset = to; fault = f })

-- from an offset on the text is these tokens, up to an end
record Ends (text : List ℕ) (from : ℕ) (tokens : List Token) (to : ℕ) (ending : Option Fault) : Type 0 where
  each : AllByRecursion (IsToken text) tokens
  apart : AreTokensApart text from tokens to
  ends : EndsAs text to ending

-- ---- what is read is spelled

record Spelled (text : List ℕ) (from : ℕ) (read : Result (List Token) Stop) : Type 0 where
  tokens : List Token
  to : ℕ
  ending : Option Fault
  is : read ≡ result_of tokens to ending
  spells : Ends text from tokens to ending

apart_onto : (text : List ℕ) (from len : ℕ) (tokens : List Token) (to : ℕ) → 1 ≤ len → from + len ≤ length text
    → GapForm (drop from text) len → AreTokensApart text (from + len) tokens to → AreTokensApart text from tokens to
apart_onto text from len [] to some within form gap = gap_onto text from len to some within form gap
apart_onto text from len (t ∷ tokens) to some within form apart = (gap_onto text from len t.start some within form apart.0, apart.1)

onto_gap : (text : List ℕ) (from len : ℕ) (read : Result (List Token) Stop) → 1 ≤ len → from + len ≤ length text
    → GapForm (drop from text) len → Spelled text (from + len) read → Spelled text from read
onto_gap text from len read some within form s = record {
  tokens = s.tokens;
  to = s.to;
  ending = s.ending;
  is = s.is;
  spells = record { each = s.spells.each; apart = apart_onto text from len s.tokens s.to some within form s.spells.apart; ends = s.spells.ends };
}

first_result : (t : Token) (tokens : List Token) (to : ℕ) (ending : Option Fault)
    → with_first t (result_of tokens to ending) ≡ result_of (t ∷ tokens) to ending
first_result t tokens to None = refl
first_result t tokens to (Some f) = refl

within_text : (text : List ℕ) (from len : ℕ) → from ≤ length text → len ≤ length (drop from text) → from + len ≤ length text
within_text text from len inside within = omega (arith, length-drop from text)

stands_token : (text : List ℕ) (from : ℕ) (kind : TokenKind) (len : ℕ) → from ≤ length text → Stands (drop from text) len
    → TokenForm (drop from text) kind len → IsToken text (token_at text from kind len)
stands_token text from kind len inside stands form = record {
  forward = (let some = stands.some in omega arith);
  within = within_text text from len inside stands.within;
  form = subst (HasForm kind) (sym (slice_is text from len)) form.form;
  longest = longest_to text from len form.longest;
  site = refl;
}

onto_token : (text : List ℕ) (from : ℕ) (kind : TokenKind) (len : ℕ) (read : Result (List Token) Stop) → from < length text
    → Stands (drop from text) len → TokenForm (drop from text) kind len → Solid (drop from text) → Spelled text (from + len) read
    → Spelled text from (with_first (token_at text from kind len) read)
onto_token text from kind len read inside stands form solid s = record {
  tokens = token_at text from kind len ∷ s.tokens;
  to = s.to;
  ending = s.ending;
  is = ap (with_first (token_at text from kind len)) s.is ∙ first_result (token_at text from kind len) s.tokens s.to s.ending;
  spells = record {
    each = (stands_token text from kind len (omega arith) stands form, s.spells.each);
    apart = (gap_none text from (omega arith) (λ _. solid.no_comment), s.spells.apart);
    ends = s.spells.ends;
  };
}

wrong_fault : (text : List ℕ) (from : ℕ) (f : Fault) → from < length text → WrongForm (drop from text) f → Solid (drop from text)
    → HasFault text from f
wrong_fault text from fault.BadByte inside wrong solid = record {
  within = inside;
  no_blank = subst (λ b. is_blank b ≡ false) (first_at text from) solid.no_blank;
  no_token = (let e : from + 0 ≡ from = omega arith in subst (IsLongest text from) e (longest_to text from 0 wrong));
}
wrong_fault text from fault.LongNumber inside wrong solid = record {
  end = from + wrong.len;
  forward = (let some = wrong.some in omega arith);
  within = within_text text from wrong.len (omega arith) wrong.within;
  digits = subst (λ bytes. is_number bytes ≡ true) (sym (slice_is text from wrong.len)) wrong.digits;
  longest = longest_to text from wrong.len wrong.longest;
  above = subst (λ bytes. LARGEST_NUMBER < decimal bytes) (sym (slice_is text from wrong.len)) wrong.above;
}

onto_fault : (text : List ℕ) (from : ℕ) (f : Fault) → from < length text → WrongForm (drop from text) f → Solid (drop from text)
    → Spelled text from (Err (record { offset = from; fault = f }))
onto_fault text from f inside wrong solid = record {
  tokens = [];
  to = from;
  ending = Some f;
  is = refl;
  spells = record { each = tt; apart = gap_none text from (omega arith) (λ _. solid.no_comment); ends = wrong_fault text from f inside wrong solid };
}

newline_form : (z : List ℕ) → is_newline (slice_index z 0) ≡ true → GapForm z 1
newline_form z h = inl (refl, newline_blank (slice_index z 0) h)

spelled_on : (text : List ℕ) (from : ℕ) (p : Piece) → from < length text → Means (drop from text) p
    → ((len : ℕ) → 1 ≤ len → from + len ≤ length text → Spelled text (from + len) (reading text (from + len)))
    → Spelled text from (reads_on text from p (λ len. reading text (from + len)))
unfolding Means
spelled_on text from piece.Newline inside means later =
    onto_gap text from 1 (reading text (from + 1)) (omega arith) (omega arith) (newline_form (drop from text) means) (later 1 (omega arith) (omega arith))
spelled_on text from (piece.Gap len) inside means later =
    let within = within_text text from len (omega arith) means.0.within in
    onto_gap text from len (reading text (from + len)) means.0.some within means.1 (later len means.0.some within)
spelled_on text from (piece.Found kind len) inside means later =
    onto_token text from kind len (reading text (from + len)) inside means.0 means.1 means.2
    (later len means.0.some (within_text text from len (omega arith) means.0.within))
spelled_on text from (piece.Wrong f) inside means later = onto_fault text from f inside means.0 means.1

at_end : (text : List ℕ) (from : ℕ) → from ≤ length text → length text ≤ from → Spelled text from (reading text from)
at_end text from within beyond = record {
  tokens = [];
  to = from;
  ending = None;
  is = reading_end text from beyond;
  spells = record { each = tt; apart = gap_none text from within (λ inside. absurd (omega arith)); ends = omega arith };
}

read_spelled : (fuel : ℕ) (text : List ℕ) (from : ℕ) → from ≤ length text → length text - from ≤ fuel
    → Spelled text from (reading text from)
read_spelled zero text from within enough = at_end text from within (omega arith)
read_spelled (suc fuel) text from within enough = elim (cases_lt from (length text)) [
  | inl inside ↦ subst (Spelled text from) (sym (reading_step text from inside))
      (spelled_on text from (front_piece (drop from text)) inside (piece_means text from inside)
      (λ len some ends. read_spelled fuel text (from + len) ends (omega arith)))
  | inr beyond ↦ at_end text from within beyond
]

-- ---- what is spelled is read

fault_inside : (text : List ℕ) (offset : ℕ) (f : Fault) → HasFault text offset f → offset < length text
fault_inside text offset fault.BadByte bad = bad.within
fault_inside text offset fault.LongNumber long = let forward = long.forward in let within = long.within in omega arith

-- what is spelled at an offset does not begin with a blank
front_no_blank : (text : List ℕ) (offset n : ℕ) → offset < length text → 0 < n → is_spelling (take n (drop offset text)) ≡ true
    → is_blank (slice_index text offset) ≡ false
front_no_blank text offset zero inside some spelling = absurd (omega arith)
front_no_blank text offset (suc n) inside some spelling =
    let cells = drop_more text offset 0 inside in
    spelled_no_blank (slice_index text offset) (take n (drop (offset + 1) text)) (subst (λ z. is_spelling (take (suc n) z) ≡ true) cells spelling)

-- a token, seen from its start
record Front (text : List ℕ) (kind : TokenKind) (end offset : ℕ) : Type 0 where
  forward : offset < end
  end_within : end ≤ length text
  within : end - offset ≤ length (drop offset text)
  form : TokenForm (drop offset text) kind (end - offset)

token_front : (text : List ℕ) (t : Token) → IsToken text t → Front text t.kind t.end t.start
token_front text t token = record {
  forward = token.forward;
  end_within = token.within;
  within = (let within = token.within in omega (arith, length-drop t.start text));
  form = record {
    form = token.form;
    longest = longest_from text t.start t.end (let forward = token.forward in omega arith) token.longest;
  };
}

token_no_blank : (text : List ℕ) (t : Token) → IsToken text t → is_blank (slice_index text t.start) ≡ false
token_no_blank text t token =
    let front = token_front text t token in
    let forward = token.forward in
    let within = token.within in
    front_no_blank text t.start (t.end - t.start) (omega arith) (omega arith) (spelled t.kind (take (t.end - t.start) (drop t.start text)) front.form.form)

long_front : (text : List ℕ) (offset : ℕ) → IsLongNumber text offset → LongForm (drop offset text)
long_front text offset long = record {
  len = long.end - offset;
  some = (let forward = long.forward in omega arith);
  within = (let within = long.within in omega (arith, length-drop offset text));
  digits = long.digits;
  longest = longest_from text offset long.end (let forward = long.forward in omega arith) long.longest;
  above = long.above;
}

fault_no_blank : (text : List ℕ) (offset : ℕ) (f : Fault) → HasFault text offset f → is_blank (slice_index text offset) ≡ false
fault_no_blank text offset fault.BadByte bad = bad.no_blank
fault_no_blank text offset fault.LongNumber long =
    let front = long_front text offset long in
    let some = front.some in
    front_no_blank text offset front.len (fault_inside text offset fault.LongNumber long) (omega arith)
    (number_spelled (take front.len (drop offset text)) front.digits)

-- a fault and a token do not stand at one offset
no_token_at_fault : (text : List ℕ) (offset : ℕ) (kind : TokenKind) (len : ℕ) (f : Fault) → offset ≤ length text → 1 ≤ len
    → len ≤ length (drop offset text) → TokenForm (drop offset text) kind len → HasFault text offset f → ⊥
no_token_at_fault text offset kind len fault.BadByte inside some within form bad =
    let e : offset + 0 ≡ offset = omega arith in
    let none = longest_from text offset offset (omega arith) bad.no_token in
    true≢false (rw (← spelled kind (take len (drop offset text)) form.form) (none len (omega arith) within))
no_token_at_fault text offset kind len fault.LongNumber inside some within form long =
    let front = long_front text offset long in
    let bytes = take len (drop offset text) in
    let digits = number_spelled (take front.len (drop offset text)) front.digits in
    let same = one_length (drop offset text) front.len len front.within within digits (spelled kind bytes form.form)
    front.longest form.longest in
    no_long_token kind bytes
    (subst (λ n. is_number (take n (drop offset text)) ≡ true) same front.digits)
    (subst (λ n. LARGEST_NUMBER < decimal (take n (drop offset text))) same front.above)
    form.form

-- an offset has one fault
one_fault : (text : List ℕ) (offset : ℕ) (f g : Fault) → HasFault text offset f → HasFault text offset g → f ≡ g
one_fault text offset fault.BadByte fault.BadByte a b = refl
one_fault text offset fault.LongNumber fault.LongNumber a b = refl
one_fault text offset fault.BadByte fault.LongNumber bad long = absurd (bad_not_long text offset bad long)
  where
    bad_not_long : (text : List ℕ) (offset : ℕ) → IsBadByte text offset → IsLongNumber text offset → ⊥
    bad_not_long text offset bad long =
        let none = bad.no_token long.end long.forward long.within in
        true≢false (rw (← number_spelled (slice_range text offset long.end) long.digits) none)
one_fault text offset fault.LongNumber fault.BadByte long bad = absurd (bad_not_long text offset bad long)
  where
    bad_not_long : (text : List ℕ) (offset : ℕ) → IsBadByte text offset → IsLongNumber text offset → ⊥
    bad_not_long text offset bad long =
        let none = bad.no_token long.end long.forward long.within in
        true≢false (rw (← number_spelled (slice_range text offset long.end) long.digits) none)

abbrev token_of : TokenKind → ℕ → ℕ → Site → Token
token_of kind start end site = record { kind = kind; start = start; end = end; site = site }

same_token : (a b : Token) → a.kind ≡ b.kind → a.start ≡ b.start → a.end ≡ b.end → a.site ≡ b.site → a ≡ b
same_token a b kind start end site =
    ap (λ k. token_of k a.start a.end a.site) kind
    ∙ ap (λ s. token_of b.kind s a.end a.site) start
    ∙ ap (λ e. token_of b.kind b.start e a.site) end
    ∙ ap (λ s. token_of b.kind b.start b.end s) site

-- the token that stands at an offset is the one that is read there
found_is : (text : List ℕ) (from : ℕ) (kind : TokenKind) (len : ℕ) (t : Token) → from ≤ length text → Stands (drop from text) len
    → TokenForm (drop from text) kind len → IsToken text t → t.start ≡ from → token_at text from kind len ≡ t
found_is text from kind len t inside stands form token start =
    let front : Front text t.kind t.end from = subst (Front text t.kind t.end) start (token_front text t token) in
    let z = drop from text in
    let here = spelled kind (take len z) form.form in
    let there = spelled t.kind (take (t.end - from) z) front.form.form in
    let same : len ≡ t.end - from =
    one_length z len (t.end - from) stands.within front.within here there form.longest front.form.longest in
    let kinds = one_kind kind t.kind (take len z) form.form (subst (λ n. HasForm t.kind (take n z)) (sym same) front.form.form) in
    let forward = front.forward in
    same_token (token_at text from kind len) t kinds (sym start) (omega arith) (ap (place_at text) (sym start) ∙ sym token.site)

ends_off : (text : List ℕ) (from len : ℕ) (tokens : List Token) (to : ℕ) (ending : Option Fault) → 1 ≤ len
    → from + len ≤ length text → GapForm (drop from text) len → Ends text from tokens to ending
    → Ends text (from + len) tokens to ending
ends_off text from len [] to None some within form e = record {
  each = e.each;
  ends = e.ends;
  apart = gap_off text from len to some within form e.apart (λ inside. absurd (let at = e.ends in omega arith));
}
ends_off text from len [] to (Some f) some within form e = record {
  each = e.each;
  ends = e.ends;
  apart = gap_off text from len to some within form e.apart (λ inside. fault_no_blank text to f e.ends);
}
ends_off text from len (t ∷ tokens) to ending some within form e = record {
  each = e.each;
  ends = e.ends;
  apart = (gap_off text from len t.start some within form e.apart.0 (λ inside. token_no_blank text t e.each.0), e.apart.1);
}

abbrev Later : List ℕ → ℕ → ℕ → Option Fault → Type 0
Later text from to ending = (len : ℕ) (tokens : List Token) → 1 ≤ len → from + len ≤ length text
    → Ends text (from + len) tokens to ending → reading text (from + len) ≡ result_of tokens to ending

found_on : (text : List ℕ) (from : ℕ) (kind : TokenKind) (len : ℕ) (tokens : List Token) (to : ℕ) (ending : Option Fault)
    → from < length text → Stands (drop from text) len → TokenForm (drop from text) kind len → Solid (drop from text)
    → Later text from to ending → Ends text from tokens to ending
    → with_first (token_at text from kind len) (reading text (from + len)) ≡ result_of tokens to ending
found_on text from kind len [] to None inside stands form solid later e =
    absurd (let here = gap_ends text from to solid e.apart in let at = e.ends in omega arith)
found_on text from kind len [] to (Some f) inside stands form solid later e =
    let here = gap_ends text from to solid e.apart in
    absurd (no_token_at_fault text from kind len f (omega arith) stands.some stands.within form (subst (λ p. HasFault text p f) here e.ends))
found_on text from kind len (t ∷ tokens) to ending inside stands form solid later e =
    let start = gap_ends text from t.start solid e.apart.0 in
    let same = found_is text from kind len t (omega arith) stands form e.each.0 start in
    let end : t.end ≡ from + len = sym (ap (λ (x : Token). x.end) same) in
    let rest : Ends text (from + len) tokens to ending = record {
      each = e.each.1;
      ends = e.ends;
      apart = subst (λ p. AreTokensApart text p tokens to) end e.apart.1;
    } in
    ap (with_first (token_at text from kind len)) (later len tokens stands.some (within_text text from len (omega arith) stands.within) rest)
    ∙ first_result (token_at text from kind len) tokens to ending
    ∙ ap (λ (x : Token). result_of (x ∷ tokens) to ending) same

wrong_on : (text : List ℕ) (from : ℕ) (f : Fault) (tokens : List Token) (to : ℕ) (ending : Option Fault) → from < length text
    → WrongForm (drop from text) f → Solid (drop from text) → Ends text from tokens to ending
    → Err (record { offset = from; fault = f }) ≡ result_of tokens to ending
wrong_on text from f [] to None inside wrong solid e =
    absurd (let here = gap_ends text from to solid e.apart in let at = e.ends in omega arith)
wrong_on text from f [] to (Some g) inside wrong solid e =
    let here = gap_ends text from to solid e.apart in
    let same = one_fault text from f g (wrong_fault text from f inside wrong solid) (subst (λ p. HasFault text p g) here e.ends) in
    ap (λ p. result_of [] p (Some f)) (sym here) ∙ ap (λ h. result_of [] to (Some h)) same
wrong_on text from f (t ∷ tokens) to ending inside wrong solid e =
    let start = gap_ends text from t.start solid e.apart.0 in
    let front : Front text t.kind t.end from = subst (Front text t.kind t.end) start (token_front text t e.each.0) in
    let forward = front.forward in
    let fault = wrong_fault text from f inside wrong solid in
    absurd (no_token_at_fault text from t.kind (t.end - from) f (omega arith) (omega arith) front.within front.form fault)

read_on : (text : List ℕ) (from : ℕ) (p : Piece) (tokens : List Token) (to : ℕ) (ending : Option Fault) → from < length text
    → Means (drop from text) p → Later text from to ending → Ends text from tokens to ending
    → reads_on text from p (λ len. reading text (from + len)) ≡ result_of tokens to ending
unfolding Means
read_on text from piece.Newline tokens to ending inside means later e =
    later 1 tokens (omega arith) (omega arith) (ends_off text from 1 tokens to ending (omega arith) (omega arith) (newline_form (drop from text) means) e)
read_on text from (piece.Gap len) tokens to ending inside means later e =
    let within = within_text text from len (omega arith) means.0.within in
    later len tokens means.0.some within (ends_off text from len tokens to ending means.0.some within means.1 e)
read_on text from (piece.Found kind len) tokens to ending inside means later e =
    found_on text from kind len tokens to ending inside means.0 means.1 means.2 later e
read_on text from (piece.Wrong f) tokens to ending inside means later e =
    wrong_on text from f tokens to ending inside means.0 means.1 e

-- nothing but the end stands at the end
last_read : (text : List ℕ) (from : ℕ) (tokens : List Token) (to : ℕ) (ending : Option Fault) → length text ≤ from
    → Ends text from tokens to ending → reading text from ≡ result_of tokens to ending
last_read text from [] to None beyond e = reading_end text from beyond
last_read text from [] to (Some f) beyond e =
    absurd (let forward = e.apart.forward in let inside = fault_inside text to f e.ends in omega arith)
last_read text from (t ∷ tokens) to ending beyond e =
    absurd (let begun = e.apart.0.forward in let forward = e.each.0.forward in let within = e.each.0.within in omega arith)

spelled_read : (fuel : ℕ) (text : List ℕ) (from : ℕ) (tokens : List Token) (to : ℕ) (ending : Option Fault)
    → length text - from ≤ fuel → Ends text from tokens to ending → reading text from ≡ result_of tokens to ending
spelled_read zero text from tokens to ending enough e = last_read text from tokens to ending (omega arith) e
spelled_read (suc fuel) text from tokens to ending enough e = elim (cases_lt from (length text)) [
  | inl inside ↦ reading_step text from inside
      ∙ read_on text from (front_piece (drop from text)) tokens to ending inside (piece_means text from inside)
      (λ len tokens some within e. spelled_read fuel text (from + len) tokens to ending (omega arith) e) e
  | inr beyond ↦ last_read text from tokens to ending beyond e
]

-- ---- the two say the same

-- the tokens of a text are what is read
pub tokens_are_read : (text : List ℕ) (tokens : List Token) → IsTokensOf text tokens → read_tokens text ≡ Ok tokens
tokens_are_read text tokens h =
    let ends : Ends text 0 tokens (length text) None = record { each = h.each; apart = h.apart; ends = refl } in
    sym (reading_all text) ∙ spelled_read (length text) text 0 tokens (length text) None (omega arith) ends

-- the first offset at which no token stands is where the reading stops
pub fault_is_read : (text : List ℕ) (offset : ℕ) (f : Fault) → IsFaultOf text offset f
    → read_tokens text ≡ Err (record { offset = offset; fault = f })
fault_is_read text offset f h =
    let ends : Ends text 0 h.before offset (Some f) = record { each = h.spelled.each; apart = h.spelled.apart; ends = h.here } in
    sym (reading_all text) ∙ spelled_read (length text) text 0 h.before offset (Some f) (omega arith) ends

abbrev IsReadOf : List ℕ → Result (List Token) Stop → Type 0
IsReadOf text (Ok tokens) = IsTokensOf text tokens
IsReadOf text (Err stop) = IsFaultOf text stop.offset stop.fault

read_is : (text : List ℕ) → IsReadOf text (read_tokens text)
read_is text =
    let s = read_spelled (length text) text 0 (omega arith) (omega arith) in
    subst (IsReadOf text) (sym s.is ∙ reading_all text) (by_ending s.tokens s.to s.ending s.spells)
  where
    by_ending : (tokens : List Token) (to : ℕ) (ending : Option Fault) → Ends text 0 tokens to ending
        → IsReadOf text (result_of tokens to ending)
    by_ending tokens to None e = record { each = e.each; apart = subst (AreTokensApart text 0 tokens) e.ends e.apart }
    by_ending tokens to (Some f) e = record { before = tokens; spelled = record { each = e.each; apart = e.apart }; here = e.ends }

-- what is read are the tokens of the text
pub read_is_tokens : (text : List ℕ) (tokens : List Token) → read_tokens text ≡ Ok tokens → IsTokensOf text tokens
read_is_tokens text tokens h = subst (IsReadOf text) h (read_is text)

-- where the reading stops is the first offset at which no token stands
pub read_is_fault : (text : List ℕ) (offset : ℕ) (f : Fault) → read_tokens text ≡ Err (record { offset = offset; fault = f })
    → IsFaultOf text offset f
read_is_fault text offset f h = subst (IsReadOf text) h (read_is text)

-- ---- one value for each text

-- a text has tokens, or a first offset that is none
pub some_reading : (text : List ℕ)
    → ((tokens : List Token) × IsTokensOf text tokens) ⊎ ((offset : ℕ) × (f : Fault) × IsFaultOf text offset f)
some_reading text = by_read (read_tokens text) (read_is text)
  where
    by_read : (read : Result (List Token) Stop) → IsReadOf text read
        → ((tokens : List Token) × IsTokensOf text tokens) ⊎ ((offset : ℕ) × (f : Fault) × IsFaultOf text offset f)
    by_read (Ok tokens) h = inl (tokens, h)
    by_read (Err stop) h = inr (stop.offset, stop.fault, h)

-- a text has one list of tokens
pub one_list : (text : List ℕ) (a b : List Token) → IsTokensOf text a → IsTokensOf text b → a ≡ b
one_list text a b in_a in_b = let left = tokens_are_read text a in_a in let right = tokens_are_read text b in_b in cc

-- a text has one first offset that is no token, with one fault
pub one_stop : (text : List ℕ) (m n : ℕ) (f g : Fault) → IsFaultOf text m f → IsFaultOf text n g → (m ≡ n) × (f ≡ g)
one_stop text m n f g at_m at_n =
    let left = fault_is_read text m f at_m in
    let right = fault_is_read text n g at_n in
    let same : record { offset = m; fault = f } ≡ record { offset = n; fault = g } = cc in
    (ap (λ (s : Stop). s.offset) same, ap (λ (s : Stop). s.fault) same)

-- a text with a list of tokens has no fault
pub not_both : (text : List ℕ) (tokens : List Token) (offset : ℕ) (f : Fault) → IsTokensOf text tokens → IsFaultOf text offset f
    → ⊥
not_both text tokens offset f listed faulty =
    let left = tokens_are_read text tokens listed in
    let right = fault_is_read text offset f faulty in
    cc
