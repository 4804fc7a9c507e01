-- Laws of what a reading takes from a source.
use Rattle.std.proofs.Common.{◌≡◌, ℕ, ◌+◌, ◌-◌, ◌^◌, ◌<◌, ◌≤◌, List, [], ◌++◌, length, Option, Some, None, IfSome}
use Rattle.std.proofs.Common.{sym, ap, ◌∙◌, arith, length-append}
use Rattle.std.proofs.lemmas.List.{append-nil}
use Rattle.std.specs.Io.KnownBytes.{Consumes, Keeps, IsAtEnd}
use Rattle.std.proofs.KnownBytes.{Consumes-nil, Consumes-kept, Consumes-trans, Consumes-whole}
use Rattle.st_io.specs.Taking.{TakesSome}

-- nothing was taken
pub nothing_was_taken : {most : ℕ} {source source' : Option (List ℕ)} {into : List ℕ} {taken : ℕ}
    → taken < 2 ^ 64 → Keeps source source' → TakesSome most source source' into into taken taken
nothing_was_taken {most} {source} {source'} {into} {taken} fits kept = record {
  bytes = [];
  consumed = Consumes-kept source source source' [] (Consumes-nil source) kept;
  appended = sym (append-nil into);
  bounded = omega arith;
  counted = omega arith;
}

-- what was taken and what is taken next, up to one limit
pub takings_add_up : {most : ℕ} {a b c : Option (List ℕ)} {xs ys : List ℕ} {before between now : ℕ}
    → TakesSome most a b [] xs before between → TakesSome (most - length xs) b c xs ys between now
    → TakesSome most a c [] ys before now
takings_add_up {most} {a} {b} {c} {xs} {ys} {before} {between} {now} first second =
    let e : xs ≡ first.bytes = first.appended in
    let n : length (first.bytes ++ second.bytes) ≡ length first.bytes + length second.bytes = length-append first.bytes second.bytes in
    let m : length xs ≡ length first.bytes = ap length e in
    record {
      bytes = first.bytes ++ second.bytes;
      consumed = Consumes-trans a b c first.bytes second.bytes first.consumed second.consumed;
      appended = second.appended ∙ ap (λ zs. zs ++ second.bytes) e;
      bounded = omega (arith, first.bounded, second.bounded);
      counted = omega (arith, first.counted, second.counted);
    }

-- a source that gave more than so many bytes has more
source_with_more_bytes_is_longer : (a b : Option (List ℕ)) (bytes : List ℕ) (limit : ℕ)
    → Consumes a b bytes → limit < length bytes → IfSome a (λ xs. limit < length xs)
source_with_more_bytes_is_longer None b bytes limit consumed long = tt
source_with_more_bytes_is_longer (Some xs) None bytes limit consumed long = absurd consumed
source_with_more_bytes_is_longer (Some xs) (Some ys) bytes limit consumed long =
    omega (arith, ap length consumed, length-append bytes ys)

-- a source of which more than the limit was taken is longer than it
pub source_is_longer_than_the_limit : (limit : ℕ) (a b : Option (List ℕ)) (xs : List ℕ) (before now : ℕ)
    → TakesSome (limit + 1) a b [] xs before now → length xs ≡ limit + 1 → IfSome a (λ bytes. limit < length bytes)
source_is_longer_than_the_limit limit a b xs before now takes full =
    source_with_more_bytes_is_longer a b takes.bytes limit takes.consumed (omega (arith, ap length takes.appended))

-- a source that has ended gave its bytes
source_ended_with_its_bytes : (a b : Option (List ℕ)) (xs ys : List ℕ)
    → Consumes a b ys → IsAtEnd b → xs ≡ ys → IfSome a (λ bytes. xs ≡ bytes)
source_ended_with_its_bytes a b xs ys consumed end same = Consumes-whole a b ys (λ bytes. xs ≡ bytes) consumed end same

-- a source that was taken to its end was taken whole
pub source_was_taken_whole : (most : ℕ) (a b : Option (List ℕ)) (xs : List ℕ) (before now : ℕ)
    → TakesSome most a b [] xs before now → IsAtEnd b → IfSome a (λ bytes. xs ≡ bytes)
source_was_taken_whole most a b xs before now takes end =
    source_ended_with_its_bytes a b xs takes.bytes takes.consumed end takes.appended

-- a buffer grew by no more than was allowed
pub buffer_grew_within_the_limit : {most : ℕ} {a b : Option (List ℕ)} {xs ys : List ℕ} {before now : ℕ}
    → TakesSome most a b xs ys before now → length ys ≤ length xs + most
buffer_grew_within_the_limit {most} {a} {b} {xs} {ys} {before} {now} takes =
    omega (arith, ap length takes.appended, length-append xs takes.bytes, takes.bounded)
