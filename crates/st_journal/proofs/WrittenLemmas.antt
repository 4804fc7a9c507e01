-- What is written of an event is read, and its words are plain.
use Rattle.std.proofs.Common.{◌≡◌, ℕ, zero, suc, ◌^◌, ◌≤◌, Bool, true, false, eqb, List, [], ◌∷◌, length, take, drop, Option, Some}
use Rattle.std.proofs.Common.{refl, arith}
use Rattle.std.specs.Prelude.{codes, ◌==◌}
use Rattle.std.specs.List.{All, list_all}
use Rattle.std.proofs.lemmas.Bool.{and_parts, eqb-true}
use Rattle.std.proofs.lemmas.List.Elements.{All-cons, All-nil, All-take}
use Rattle.st_events.specs.declared.shapes.TheConstants.{MOST_ARGS}
use Rattle.st_journal.specs.declared.rows.Row.TheVariants as row
use Rattle.st_journal.specs.Terms.{Event, New, Load, Store, Cas, Launch, Retire, Args}
use Rattle.st_journal.specs.Format.{flag, event_words, FitsFields, IsByte, IsShort, IsHalf, IsWord}
use Rattle.st_journal.specs.Reading.{truth, new_in, load_in, store_in, cas_in, args_in, launch_in, retire_in, event_in, numbered_row_in, row_in}
use Rattle.st_journal.proofs.EventLemmas.{below_again, written_are_read}
use Rattle.st_journal.proofs.SplitLemmas.{IsPlain, numbered_are_plain}

byte_is_word : (n : ℕ) → IsByte n → IsWord n
byte_is_word n fits = omega arith

short_is_word : (n : ℕ) → IsShort n → IsWord n
short_is_word n fits = omega arith

-- a number of 32 bits is one of 64 bits
pub half_is_word : (n : ℕ) → IsHalf n → IsWord n
half_is_word n fits = omega arith

flag_is_word : (t : Bool) → IsWord (flag t)
flag_is_word true = omega arith
flag_is_word false = omega arith

count_is_word : (n : ℕ) → n ≤ MOST_ARGS → IsWord n
count_is_word n few = omega arith

-- two numbers of 64 bits each are such numbers together
abbrev pub words2 : (a b : ℕ) → IsWord a → IsWord b → All IsWord (a ∷ b ∷ [])
words2 a b fa fb = All-cons IsWord a (b ∷ []) fa (All-cons IsWord b [] fb (All-nil IsWord))

abbrev words3 : (a b c : ℕ) → IsWord a → IsWord b → IsWord c → All IsWord (a ∷ b ∷ c ∷ [])
words3 a b c fa fb fc = All-cons IsWord a (b ∷ c ∷ []) fa (words2 b c fb fc)

abbrev words4 : (a b c d : ℕ) → IsWord a → IsWord b → IsWord c → IsWord d → All IsWord (a ∷ b ∷ c ∷ d ∷ [])
words4 a b c d fa fb fc fd = All-cons IsWord a (b ∷ c ∷ d ∷ []) fa (words3 b c d fb fc fd)

new_words : (m obj class : ℕ) → FitsFields (New m obj class) → All IsWord (m ∷ obj ∷ class ∷ [])
new_words m obj class fits = words3 m obj class (byte_is_word m fits.0) (half_is_word obj fits.1) (byte_is_word class fits.2)

load_words : (m obj field value : ℕ) → FitsFields (Load m obj field value) → All IsWord (m ∷ obj ∷ field ∷ value ∷ [])
load_words m obj field value fits = words4 m obj field value (byte_is_word m fits.0) (half_is_word obj fits.1) (byte_is_word field fits.2) fits.3

cas_words : (m obj field expect value : ℕ) (done : Bool) → FitsFields (Cas m obj field expect value done)
    → All IsWord (m ∷ obj ∷ field ∷ expect ∷ value ∷ flag done ∷ [])
cas_words m obj field expect value done fits =
    All-cons IsWord m (obj ∷ field ∷ expect ∷ value ∷ flag done ∷ []) (byte_is_word m fits.0)
    (All-cons IsWord obj (field ∷ expect ∷ value ∷ flag done ∷ []) (half_is_word obj fits.1)
    (words4 field expect value (flag done) (byte_is_word field fits.2) fits.3 fits.4 (flag_is_word done)))

launch_words : (m site number : ℕ) (args : Args) → FitsFields (Launch m site number args)
    → All IsWord (m ∷ number ∷ site ∷ args.count ∷ take args.count args.words)
launch_words m site number args fits =
    let used : All IsWord (take args.count args.words) = All-take IsWord args.count args.words fits.3.words in
    All-cons IsWord m (number ∷ site ∷ args.count ∷ take args.count args.words) (byte_is_word m fits.0)
    (All-cons IsWord number (site ∷ args.count ∷ take args.count args.words) (half_is_word number fits.1)
    (All-cons IsWord site (args.count ∷ take args.count args.words) (short_is_word site fits.2)
    (All-cons IsWord args.count (take args.count args.words) (count_is_word args.count fits.3.used.count) used)))

retire_words : (m number : ℕ) → FitsFields (Retire m number) → All IsWord (m ∷ number ∷ [])
retire_words m number fits = words2 m number (byte_is_word m fits.0) (half_is_word number fits.1)

-- the words of an event whose numbers fit have no blank and no newline in them
pub event_is_plain : (e : Event) → FitsFields e → All IsPlain (event_words e)
event_is_plain (New m obj class) fits = numbered_are_plain (codes "N") (m ∷ obj ∷ class ∷ []) refl (new_words m obj class fits)
event_is_plain (Load m obj field value) fits = numbered_are_plain (codes "L") (m ∷ obj ∷ field ∷ value ∷ []) refl (load_words m obj field value fits)
event_is_plain (Store m obj field value) fits = numbered_are_plain (codes "S") (m ∷ obj ∷ field ∷ value ∷ []) refl (load_words m obj field value fits)
event_is_plain (Cas m obj field expect value done) fits =
    numbered_are_plain (codes "C") (m ∷ obj ∷ field ∷ expect ∷ value ∷ flag done ∷ []) refl (cas_words m obj field expect value done fits)
event_is_plain (Launch m site number args) fits =
    numbered_are_plain (codes "K") (m ∷ number ∷ site ∷ args.count ∷ take args.count args.words) refl (launch_words m site number args fits)
event_is_plain (Retire m number) fits = numbered_are_plain (codes "R") (m ∷ number ∷ []) refl (retire_words m number fits)

-- 1 or 0
truth_again : (t : Bool) → truth (flag t) ≡ Some t
truth_again true = refl
truth_again false = refl

-- the unused words are 0
first_is_zero : (a : ℕ) (more : List ℕ) → list_all (λ word. word == 0) (a ∷ more) ≡ true → (a ≡ 0) × (list_all (λ word. word == 0) more ≡ true)
first_is_zero a more e = let parts = and_parts (eqb a 0) (list_all (λ word. word == 0) more) e in (eqb-true a 0 parts.0, parts.1)

abbrev some_args : ℕ → List ℕ → Option Args
some_args count words = Some (record { count = count; words = words })

args_again : (count : ℕ) (words : List ℕ) → length words ≡ MOST_ARGS → count ≤ MOST_ARGS → list_all (λ word. word == 0) (drop count words) ≡ true
    → args_in count (take count words) ≡ some_args count words
unfolding args_in
args_again zero (a ∷ b ∷ c ∷ d ∷ []) room few unused =
    let za = first_is_zero a (b ∷ c ∷ d ∷ []) unused in
    let zb = first_is_zero b (c ∷ d ∷ []) za.1 in
    let zc = first_is_zero c (d ∷ []) zb.1 in
    let zd = first_is_zero d [] zc.1 in
    rw (za.0, zb.0, zc.0, zd.0) refl
args_again (suc zero) (a ∷ b ∷ c ∷ d ∷ []) room few unused =
    let zb = first_is_zero b (c ∷ d ∷ []) unused in
    let zc = first_is_zero c (d ∷ []) zb.1 in
    let zd = first_is_zero d [] zc.1 in
    rw (zb.0, zc.0, zd.0) refl
args_again (suc (suc zero)) (a ∷ b ∷ c ∷ d ∷ []) room few unused =
    let zc = first_is_zero c (d ∷ []) unused in
    let zd = first_is_zero d [] zc.1 in
    rw (zc.0, zd.0) refl
args_again (suc (suc (suc zero))) (a ∷ b ∷ c ∷ d ∷ []) room few unused = let zd = first_is_zero d [] unused in rw zd.0 refl
args_again (suc (suc (suc (suc zero)))) (a ∷ b ∷ c ∷ d ∷ []) room few unused = refl
args_again (suc (suc (suc (suc (suc n))))) (a ∷ b ∷ c ∷ d ∷ []) room few unused = absurd (omega (arith, few))
args_again count [] room few unused = absurd (omega (arith, room))
args_again count (a ∷ []) room few unused = absurd (omega (arith, room))
args_again count (a ∷ b ∷ []) room few unused = absurd (omega (arith, room))
args_again count (a ∷ b ∷ c ∷ []) room few unused = absurd (omega (arith, room))
args_again count (a ∷ b ∷ c ∷ d ∷ x ∷ more) room few unused = absurd (omega (arith, room))

-- the words of an event whose numbers fit are read as this event
pub event_is_read : (e : Event) → FitsFields e → row_in (event_words e) ≡ Some (row.Event e)
unfolding row_in numbered_row_in event_in new_in load_in store_in cas_in launch_in retire_in
event_is_read (New m obj class) fits =
    rw (written_are_read (m ∷ obj ∷ class ∷ []) (new_words m obj class fits), below_again (2 ^ 8) m fits.0, below_again (2 ^ 32) obj fits.1, below_again (2 ^ 8) class fits.2) refl
event_is_read (Load m obj field value) fits =
    rw (
      written_are_read (m ∷ obj ∷ field ∷ value ∷ []) (load_words m obj field value fits),
      below_again (2 ^ 8) m fits.0,
      below_again (2 ^ 32) obj fits.1,
      below_again (2 ^ 8) field fits.2,
    ) refl
event_is_read (Store m obj field value) fits =
    rw (
      written_are_read (m ∷ obj ∷ field ∷ value ∷ []) (load_words m obj field value fits),
      below_again (2 ^ 8) m fits.0,
      below_again (2 ^ 32) obj fits.1,
      below_again (2 ^ 8) field fits.2,
    ) refl
event_is_read (Cas m obj field expect value done) fits =
    rw (
      written_are_read (m ∷ obj ∷ field ∷ expect ∷ value ∷ flag done ∷ []) (cas_words m obj field expect value done fits),
      below_again (2 ^ 8) m fits.0,
      below_again (2 ^ 32) obj fits.1,
      below_again (2 ^ 8) field fits.2,
      truth_again done,
    ) refl
event_is_read (Launch m site number args) fits =
    rw (
      written_are_read (m ∷ number ∷ site ∷ args.count ∷ take args.count args.words) (launch_words m site number args fits),
      below_again (2 ^ 8) m fits.0,
      below_again (2 ^ 32) number fits.1,
      below_again (2 ^ 16) site fits.2,
      args_again args.count args.words fits.3.room fits.3.used.count fits.3.used.unused,
    ) refl
event_is_read (Retire m number) fits =
    rw (written_are_read (m ∷ number ∷ []) (retire_words m number fits), below_again (2 ^ 8) m fits.0, below_again (2 ^ 32) number fits.1) refl
