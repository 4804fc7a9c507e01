-- A stack of frames and words as the activations that it stands for.
use Rattle.std.proofs.Common.{◌≡◌, ◌≤◌, ◌<◌, ℕ, zero, suc, ◌+◌, ◌-◌, true, List, [], ◌∷◌, ◌++◌, length, take}
use Rattle.std.proofs.Common.{drop, reverse, min, Option, Some, None, unwrap_or, IsSome}
use Rattle.std.proofs.Common.{refl, sym, ◌∙◌, ap, subst, arith, option_to_list}
use Rattle.std.proofs.lemmas.List.{take-take, drop-take, reverse-append, length-reverse, length-take-le, length-drop, take-append-drop, length-take}
use Rattle.std.proofs.Math.Seq.{drop-append_seam}
use Rattle.st_eval.specs.StraightCode.{below}
use Rattle.st_eval.specs.declared.frames.Frame.{Frame}
use Rattle.st_eval.specs.declared.frames.Span.{Span}
use Rattle.st_eval.specs.Activations.{Activations, held_waiting, held_in_all, top_word, popped, entered, resumed}
use Rattle.st_eval.specs.Activations.{activation_of, activations_of, words_below, Share, stacked, IsStack, ResumeIs}

-- as many bodies wait as frames
pub as_many_wait : (fs : List Frame) (words : List ℕ) → length (activations_of fs words) ≡ length fs
as_many_wait [] words = refl
as_many_wait (f ∷ fs) words = ap suc (as_many_wait fs (words_below f words))

-- frames that share words hold them all
pub shared : (fs : List Frame) (words : List ℕ) → Share fs words → held_waiting (activations_of fs words) ≡ length words
shared [] words h = let e : length words ≤ 0 = h in omega arith
shared (f ∷ fs) words h =
    let w : length (take f.words words) ≡ f.words = length-take-le f.words words h.0 in
    let l : length (reverse (take f.locals (drop f.words words))) ≡ f.locals =
    length-reverse (take f.locals (drop f.words words)) ∙ length-take-le f.locals (drop f.words words) h.1 in
    let d : length (drop f.words words) ≡ length words - f.words = length-drop f.words words in
    let b : length (words_below f words) ≡ length (drop f.words words) - f.locals = length-drop f.locals (drop f.words words) in
    let i : held_waiting (activations_of fs (words_below f words)) ≡ length (words_below f words) = shared fs (words_below f words) h.2 in
    let p : f.words ≤ length words = h.0 in
    let q : f.locals ≤ length (drop f.words words) = h.1 in
    omega arith

-- all words of a stack
pub held_is : (running : Frame) (waiting : List Frame) (words : List ℕ) (a b : ℕ)
    → IsStack running waiting words
    → held_in_all (stacked running waiting words a b) ≡ length words
held_is running waiting words a b h = shared (running ∷ reverse waiting) (reverse words) h ∙ length-reverse words

-- where there is room for one word in what is seen, there is in memory
pub room_for_one : (running : Frame) (waiting : List Frame) (words : List ℕ) (a b : ℕ) (s : Activations)
    → stacked running waiting words a b ≡ s
    → IsStack running waiting words
    → held_in_all s < s.words_room
    → length words < a
room_for_one running waiting words a b s e h room =
    let r : held_in_all (stacked running waiting words a b) < a = subst (λ (x : Activations). held_in_all x < x.words_room) (sym e) room in
    let k : held_in_all (stacked running waiting words a b) ≡ length words = held_is running waiting words a b h in
    omega arith

-- and all words lie in that room
pub within_room : (running : Frame) (waiting : List Frame) (words : List ℕ) (a b : ℕ)
    → IsStack running waiting words
    → length words ≤ a
    → held_in_all (stacked running waiting words a b) ≤ a
within_room running waiting words a b h room =
    let k : held_in_all (stacked running waiting words a b) ≡ length words = held_is running waiting words a b h in
    omega arith

-- how many wait
pub depth_is : (running : Frame) (waiting : List Frame) (words : List ℕ) (a b : ℕ) (s : Activations)
    → stacked running waiting words a b ≡ s
    → length s.waiting ≡ length waiting
depth_is running waiting words a b s e =
    sym (ap (λ (x : Activations). length x.waiting) e) ∙ as_many_wait (reverse waiting) (words_below running (reverse words)) ∙ length-reverse waiting

-- the newest word is the first from the top
newest_first : (words : List ℕ) (word : ℕ) → reverse (words ++ word ∷ []) ≡ word ∷ reverse words
newest_first words word = reverse-append words (word ∷ [])

-- the top word is taken
pub popped_is :
    (f : Frame) (waiting : List Frame) (old new : List ℕ) (o : Option ℕ) (a b m : ℕ)
    → old ≡ new ++ option_to_list o
    → IsSome o
    → f.words ≡ suc m
    → (stacked (record f { words = m }) waiting new a b ≡ popped (stacked f waiting old a b)) × (unwrap_or o 0 ≡ top_word (stacked f waiting old a b))
popped_is f waiting old new None a b m e h k = cc
popped_is f waiting old new (Some word) a b m e h k =
    let turned : reverse old ≡ word ∷ reverse new = ap reverse e ∙ newest_first new word in
    let whole : Activations → Type 0 =
    λ (s : Activations). (stacked (record f { words = m }) waiting new a b ≡ popped s) × (word ≡ top_word s) in
    subst whole
    (λ i. record {
      running = record { place = f.place; end = f.end; locals = reverse (take f.locals (drop (sym k i) (sym turned i))); words = take (sym k i) (sym turned i) };
      waiting = activations_of (reverse waiting) (drop f.locals (drop (sym k i) (sym turned i)));
      words_room = a;
      calls_room = b;
    })
    (refl, refl)

-- nothing is left of nothing
drop_none : {A : Type 0} (k : ℕ) → drop {A = A} k [] ≡ []
drop_none zero = refl
drop_none (suc k) = refl

-- passing over words twice
pub drop_twice : {A : Type 0} (m n : ℕ) (xs : List A) → drop n (drop m xs) ≡ drop (m + n) xs
drop_twice zero n xs = ap (λ k. drop k xs) (let e : n ≡ 0 + n = omega arith in e)
drop_twice (suc m) n [] = drop_none n ∙ sym (drop_none (suc m + n))
drop_twice (suc m) n (x ∷ xs) = drop_twice m n xs ∙ ap (λ k. drop k (x ∷ xs)) (let e : suc (m + n) ≡ suc m + n = omega arith in e)

-- a body begins, and the one that ran waits
pub entered_is :
    (f : Frame) (waiting : List Frame) (words : List ℕ) (span : Span) (args rest a b : ℕ)
    → f.words ≡ args + rest
    → stacked (record { place = span.start; end = span.end; locals = args; words = 0 }) (waiting ++ record f { words = rest } ∷ []) words a b
    ≡ entered span args (stacked f waiting words a b)
entered_is f waiting words span args rest a b e =
    ap (λ (fs : List Frame). stacked_from fs) (reverse-append waiting (record f { words = rest } ∷ []))
    ∙ λ i. record {
      running = record { place = span.start; end = span.end; locals = reverse (args_alike i); words = [] };
      waiting = record { place = f.place; end = f.end; locals = reverse (take f.locals (below_alike i)); words = kept_alike i }
          ∷ activations_of (reverse waiting) (drop f.locals (below_alike i));
      words_room = a;
      calls_room = b;
    }
  where
    stacked_from : List Frame → Activations
    stacked_from fs =
        record {
          running = record { place = span.start; end = span.end; locals = reverse (take args (reverse words)); words = [] };
          waiting = activations_of fs (drop args (reverse words));
          words_room = a;
          calls_room = b;
        }

    args_alike : take args (reverse words) ≡ take args (take f.words (reverse words))
    args_alike = sym (take-take args f.words (reverse words) (let k : f.words ≡ args + rest = e in omega arith))

    below_alike : drop rest (drop args (reverse words)) ≡ drop f.words (reverse words)
    below_alike = drop_twice args rest (reverse words) ∙ ap (λ n. drop n (reverse words)) (sym e)

    kept_alike : take rest (drop args (reverse words)) ≡ drop args (take f.words (reverse words))
    kept_alike = sym (ap (λ n. drop args (take n (reverse words))) e ∙ drop-take args rest (reverse words))

-- from the top down, what is kept of the words is what lies below the others
pub kept_is : (words : List ℕ) (n : ℕ) → n ≤ length words → reverse (take (length words - n) words) ≡ drop n (reverse words)
kept_is words n h =
    sym (drop-append_seam (reverse (drop k words)) (reverse (take k words)))
    ∙ ap (λ j. drop j (reverse (drop k words) ++ reverse (take k words))) (length-reverse (drop k words) ∙ length-drop k words ∙ back)
    ∙ ap (drop n) (sym (reverse-append (take k words) (drop k words)) ∙ ap reverse (take-append-drop k words))
  where
    k : ℕ
    k = length words - n

    back : length words - (length words - n) ≡ n
    back = omega arith

-- the last caller goes on
pub resumed_is :
    (f caller : Frame) (old new : List Frame) (before after : List ℕ) (a b : ℕ)
    → old ≡ new ++ caller ∷ []
    → reverse after ≡ words_below f (reverse before)
    → ResumeIs true (stacked caller new after a b) (stacked f old before a b) (resumed (stacked f old before a b))
resumed_is f caller old new before after a b e h =
    subst (λ (fs : List Frame). ResumeIs true (stacked caller new after a b) (seen fs) (resumed (seen fs)))
    (sym (ap reverse e ∙ reverse-append new (caller ∷ [])))
    (λ i. record {
      running = activation_of caller (h i);
      waiting = activations_of (reverse new) (words_below caller (h i));
      words_room = a;
      calls_room = b;
    })
  where
    seen : List Frame → Activations
    seen fs =
        record {
          running = activation_of f (reverse before);
          waiting = activations_of fs (words_below f (reverse before));
          words_room = a;
          calls_room = b;
        }

-- the frames of the others share what lies below
pub resumed_shares :
    (f caller : Frame) (old new : List Frame) (before after : List ℕ)
    → old ≡ new ++ caller ∷ []
    → reverse after ≡ words_below f (reverse before)
    → IsStack f old before
    → IsStack caller new after
resumed_shares f caller old new before after e h s =
    let fs : reverse old ≡ caller ∷ reverse new = ap reverse e ∙ reverse-append new (caller ∷ []) in
    subst (λ words. Share (caller ∷ reverse new) words) (sym h) (subst (λ (rest : List Frame). Share rest (words_below f (reverse before))) fs s.2)

-- what is left of the words where a body ends
pub left_below :
    (f : Frame) (waiting : List Frame) (before after : List ℕ) (kept : ℕ)
    → IsStack f waiting before
    → kept ≡ length before - f.words - f.locals
    → after ≡ take kept before
    → reverse after ≡ words_below f (reverse before)
left_below f waiting before after kept s k e =
    let w : f.words ≤ length (reverse before) = s.0 in
    let l : f.locals ≤ length (drop f.words (reverse before)) = s.1 in
    let d : length (drop f.words (reverse before)) ≡ length (reverse before) - f.words = length-drop f.words (reverse before) in
    let n : length (reverse before) ≡ length before = length-reverse before in
    let fits : f.words + f.locals ≤ length before = omega arith in
    let same : kept ≡ length before - (f.words + f.locals) = omega arith in
    ap reverse (e ∙ ap (λ j. take j before) same) ∙ kept_is before (f.words + f.locals) fits ∙ sym (drop_twice f.words f.locals (reverse before))

-- without its top word a body holds no more
popped_holds_less : (s : Activations) → held_in_all (popped s) ≤ held_in_all s
popped_holds_less s = less s.running.words
  where
    less : (words : List ℕ) → length (below words) + length s.running.locals + held_waiting s.waiting ≤ length words + length s.running.locals + held_waiting s.waiting
    less [] = omega arith
    less (word ∷ words) = omega arith

-- a word is taken: what the code does is what is seen
pub record IsPopped (f : Frame) (waiting : List Frame) (new : List ℕ) (o : Option ℕ) (a b : ℕ) (s : Activations) : Type 0 where
  pub rest : stacked (record f { words = f.words - 1 }) waiting new a b ≡ popped s
  pub word : unwrap_or o 0 ≡ top_word s
  pub room : held_in_all (stacked (record f { words = f.words - 1 }) waiting new a b) ≤ a

-- the code takes the last word of a stack that has one: that is the top word, and what is left is the activations without it
pub popped_from :
    (f : Frame) (waiting : List Frame) (old new : List ℕ) (o : Option ℕ) (was a b : ℕ) (s : Activations)
    → stacked f waiting old was b ≡ s
    → IsStack f waiting old
    → (f.words ≡ 0 → ⊥)
    → old ≡ new ++ option_to_list o
    → (0 < length old → IsSome o)
    → length old ≤ was
    → a ≡ was
    → IsPopped f waiting new o a b s
popped_from f waiting old new o was a b s view stack some items variant room same =
    let k : f.words ≡ suc (f.words - 1) = omega arith in
    let n : f.words ≤ length (reverse old) = stack.0 in
    let t : length (reverse old) ≡ length old = length-reverse old in
    let p = popped_is f waiting old new o was b (f.words - 1) items (variant (omega arith)) k in
    let r : stacked (record f { words = f.words - 1 }) waiting new a b ≡ popped s =
    ap (λ n. stacked (record f { words = f.words - 1 }) waiting new n b) same ∙ p.0 ∙ ap popped view in
    let l : held_in_all (stacked f waiting old was b) ≤ was = within_room f waiting old was b stack room in
    let h : held_in_all s ≤ was = subst (λ x. held_in_all x ≤ was) view l in
    let d : held_in_all (popped s) ≤ held_in_all s = popped_holds_less s in
    let e : held_in_all (popped s) ≤ a = omega arith in
    record { rest = r; word = p.1 ∙ ap top_word view; room = subst (λ x. held_in_all x ≤ a) (sym r) e }

-- a body begins: what the code does is what is seen
pub entered_from :
    (f : Frame) (waiting new : List Frame) (words : List ℕ) (span : Span) (args a was b : ℕ) (s : Activations)
    → stacked f waiting words a was ≡ s
    → args ≤ length s.running.words
    → new ≡ waiting ++ record f { words = f.words - args } ∷ []
    → b ≡ was
    → stacked (record { place = span.start; end = span.end; locals = args; words = 0 }) new words a b ≡ entered span args s
entered_from f waiting new words span args a was b s view taken pushed same =
    let l : args ≤ length (take f.words (reverse words)) = subst (λ (x : Activations). args ≤ length x.running.words) (sym view) taken in
    let m : length (take f.words (reverse words)) ≡ min f.words (length (reverse words)) = length-take f.words (reverse words) in
    let k : f.words ≡ args + (f.words - args) = omega arith in
    (λ i. stacked (record { place = span.start; end = span.end; locals = args; words = 0 }) (pushed i) words a (same i))
    ∙ entered_is f waiting words span args (f.words - args) a was k
    ∙ ap (entered span args) view

-- room for one frame more
pub room_for_frame :
    (f : Frame) (waiting : List Frame) (words : List ℕ) (a b : ℕ) (s : Activations)
    → stacked f waiting words a b ≡ s
    → length s.waiting < s.calls_room
    → length waiting < b
room_for_frame f waiting words a b s view room =
    let r : length s.waiting < b = subst (λ (x : Activations). length s.waiting < x.calls_room) (sym view) room in
    let e : length s.waiting ≡ length waiting = depth_is f waiting words a b s view in
    omega arith

-- the last caller goes on: what the code does is what is seen
pub resumed_from :
    (f caller : Frame) (old new : List Frame) (before after : List ℕ) (kept a c was_a was_c : ℕ) (s : Activations)
    → stacked f old before was_a was_c ≡ s
    → IsStack f old before
    → old ≡ new ++ caller ∷ []
    → kept ≡ length before - f.words - f.locals
    → after ≡ take kept before
    → a ≡ was_a
    → c ≡ was_c
    → ResumeIs true (stacked caller new after a c) s (resumed s)
resumed_from f caller old new before after kept a c was_a was_c s view stack items count cut same_a same_c =
    subst (λ x. ResumeIs true (stacked caller new after a c) x (resumed x)) view
    (subst (λ n. ResumeIs true (stacked caller new after a n) (stacked f old before was_a was_c) (resumed (stacked f old before was_a was_c))) (sym same_c)
    (subst (λ n. ResumeIs true (stacked caller new after n was_c) (stacked f old before was_a was_c) (resumed (stacked f old before was_a was_c))) (sym same_a)
    (resumed_is f caller old new before after was_a was_c items (left_below f old before after kept stack count cut))))
