-- Laws of bytes that grow: puts that follow one another, and a put that stops them.
use Rattle.std.proofs.Common.{◌≡◌, ℕ, zero, suc, ◌<◌, List, [], ◌∷◌, ◌++◌, length, get_or, take, drop, flat_map}
use Rattle.std.proofs.Common.{Option, Some, None, IfSome, refl, sym, ap, ◌∙◌, append_assoc, arith}
use Rattle.std.proofs.lemmas.List.{append-nil, take-append-drop}
use Rattle.st_io.specs.Growth.{Grows, GrowsByFront}

-- bytes that are told, put one after another
told_bytes_add_up : (before : Option (List ℕ)) (between now : Option (List ℕ)) (xs ys : List ℕ)
    → IfSome before (λ written. between ≡ Some (written ++ xs))
    → IfSome between (λ written. now ≡ Some (written ++ ys))
    → IfSome before (λ written. now ≡ Some (written ++ (xs ++ ys)))
told_bytes_add_up None between now xs ys first second = tt
told_bytes_add_up (Some written) None now xs ys first second = cc
told_bytes_add_up (Some written) (Some more) now xs ys first second =
    let e : more ≡ written ++ xs = cc in
    rw (← append_assoc) (rw (← e) second)

-- nothing was written
pub nothing_is_growth_by_nothing : (before : Option (List ℕ)) → Grows before [] before
nothing_is_growth_by_nothing None = record { told = tt }
nothing_is_growth_by_nothing (Some written) = record { told = ap Some (sym (append-nil written)) }

-- two pieces that were put one after another
pub growths_add_up : (before between now : Option (List ℕ)) (xs ys : List ℕ)
    → Grows before xs between → Grows between ys now → Grows before (xs ++ ys) now
growths_add_up before between now xs ys first second =
    record { told = told_bytes_add_up before between now xs ys first.told second.told }

-- nothing of a piece was written
pub nothing_is_growth_by_a_front : {before : Option (List ℕ)} {piece : List ℕ} → GrowsByFront before piece before
nothing_is_growth_by_a_front {before} {piece} =
    record { front = []; rest = piece; whole = refl; grew = nothing_is_growth_by_nothing before }

-- all of a piece is a front of it
pub growth_is_growth_by_a_front : (before now : Option (List ℕ)) (piece : List ℕ)
    → Grows before piece now → GrowsByFront before piece now
growth_is_growth_by_a_front before now piece grew =
    record { front = piece; rest = []; whole = sym (append-nil piece); grew = grew }

-- a put that stopped within the first piece stopped within both
pub growth_stopped_in_the_first_piece : (before now : Option (List ℕ)) (xs ys : List ℕ)
    → GrowsByFront before xs now → GrowsByFront before (xs ++ ys) now
growth_stopped_in_the_first_piece before now xs ys cut = record {
  front = cut.front;
  rest = cut.rest ++ ys;
  whole = ap (λ zs. zs ++ ys) cut.whole ∙ append_assoc cut.front cut.rest ys;
  grew = cut.grew;
}

-- a put that stopped within the second piece, after all of the first
pub growth_stopped_in_the_second_piece : (before between now : Option (List ℕ)) (xs ys : List ℕ)
    → Grows before xs between → GrowsByFront between ys now → GrowsByFront before (xs ++ ys) now
growth_stopped_in_the_second_piece before between now xs ys first cut = record {
  front = xs ++ cut.front;
  rest = cut.rest;
  whole = ap (λ zs. xs ++ zs) cut.whole ∙ sym (append_assoc xs cut.front cut.rest);
  grew = growths_add_up before between now xs cut.front first cut.grew;
}

-- a sink that tells its bytes took the first n of a piece
pub first_bytes_are_growth_by_a_front : {written piece now : List ℕ} (n : ℕ)
    → now ≡ written ++ take n piece → GrowsByFront (Some written) piece (Some now)
first_bytes_are_growth_by_a_front {written} {piece} {now} n is = record {
  front = take n piece;
  rest = drop n piece;
  whole = sym (take-append-drop n piece);
  grew = record { told = ap Some is };
}

-- a put that stopped within a piece of a longer text, after all that stands before the piece
pub growth_stopped_within_a_piece : {before between now : Option (List ℕ)} {text xs piece : List ℕ} (rest : List ℕ)
    → text ≡ xs ++ (piece ++ rest) → Grows before xs between → GrowsByFront between piece now
    → GrowsByFront before text now
growth_stopped_within_a_piece {before} {between} {now} {text} {xs} {piece} rest is first cut =
    let in_the_rest = growth_stopped_in_the_first_piece between now piece rest cut in
    rw is (growth_stopped_in_the_second_piece before between now xs (piece ++ rest) first in_the_rest)

-- the pieces of a list, one after another: those before the piece at i, that piece, and those after it
pub pieces_around_one : {X : Type 0} (pieces : X → List ℕ) (xs : List X) (i : ℕ) (x : X)
    → i < length xs → x ≡ get_or xs i x
    → flat_map pieces xs ≡ flat_map pieces (take i xs) ++ (pieces x ++ flat_map pieces (drop (suc i) xs))
pieces_around_one pieces [] i x within is = absurd (omega arith)
pieces_around_one pieces (y ∷ ys) zero x within is = ap (λ z. pieces z ++ flat_map pieces ys) (sym is)
pieces_around_one pieces (y ∷ ys) (suc i) x within is =
    ap (λ zs. pieces y ++ zs) (pieces_around_one pieces ys i x (omega arith) is)
    ∙ sym (append_assoc (pieces y) (flat_map pieces (take i ys)) (pieces x ++ flat_map pieces (drop (suc i) ys)))
