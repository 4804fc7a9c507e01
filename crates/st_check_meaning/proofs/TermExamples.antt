-- Each operator at its bounds, each fault with its place, and branches that are not evaluated: what the definitions give, computed by the prover
use Rattle.std.proofs.Common.{◌≡◌, ℕ, ◌-◌, ◌^◌, true, false, [], ◌∷◌, ℤ, pos, negsuc, refl}
use Rattle.st_events.specs.declared.events.Site.{Site}
use Rattle.st_events.specs.declared.verdicts.Plain.TheVariants.{Null, Divide, Overflow, Spent}
use Rattle.st_resolved.specs.declared.expressions.Operator.{Operator}
use Rattle.st_resolved.specs.declared.expressions.Operator.TheVariants.{Add, Sub, Mul, Div, Rem, Less, LessEq, Greater, GreaterEq, Equal, NotEqual}
use Rattle.st_resolved.specs.Terms.{Term, a_number, a_truth, a_local, a_shared, a_field, a_not, a_minus, a_binary, a_both, an_either, a_cond}
use Rattle.st_check_meaning.specs.Courses.{Course, comes_to, ends_in, reads}
use Rattle.st_check_meaning.specs.Meaning.{course_of}

-- the least and the greatest number
abbrev least : ℤ
least = negsuc (2 ^ 63 - 1)

abbrev greatest : ℤ
greatest = pos (2 ^ 63 - 1)

-- a place, by its column
abbrev column : ℕ → Site
column n = record { line = 1; column = n }

-- the course of an expression without calls, whose two locals are null and object 7
abbrev course : Term → Course ℕ
course t = course_of (λ _ _. ends_in Spent) t (0 ∷ 7 ∷ [])

-- two numbers with an operator between them, at column 5
abbrev of_numbers : ℤ → Operator → ℤ → Course ℕ
of_numbers left operator right = course (a_binary operator (a_number left) (a_number right) (column 5))

-- what the course comes to is this number, or this truth; or there is an overflow, or a division by zero, at the operator
abbrev is_number : ℤ → Course ℕ → Type 0
is_number number c = c ≡ course (a_number number)

abbrev overflows : Course ℕ → Type 0
overflows c = c ≡ ends_in (Overflow (column 5))

abbrev divides_by_zero : Course ℕ → Type 0
divides_by_zero c = c ≡ ends_in (Divide (column 5))

abbrev is_yes : Course ℕ → Type 0
is_yes c = c ≡ comes_to 1

abbrev is_no : Course ℕ → Type 0
is_no c = c ≡ comes_to 0

-- ---- sums, differences, products

greatest_and_zero : is_number greatest (of_numbers greatest Add (pos 0))
greatest_and_zero = refl

least_and_greatest : is_number (negsuc 0) (of_numbers least Add greatest)
least_and_greatest = refl

greatest_and_one : overflows (of_numbers greatest Add (pos 1))
greatest_and_one = refl

least_and_less : overflows (of_numbers least Add (negsuc 0))
least_and_less = refl

least_less_least : is_number (pos 0) (of_numbers least Sub least)
least_less_least = refl

minus_one_less_least : is_number greatest (of_numbers (negsuc 0) Sub least)
minus_one_less_least = refl

zero_less_least : overflows (of_numbers (pos 0) Sub least)
zero_less_least = refl

least_less_one : overflows (of_numbers least Sub (pos 1))
least_less_one = refl

least_times_one : is_number least (of_numbers least Mul (pos 1))
least_times_one = refl

least_times_minus_one : overflows (of_numbers least Mul (negsuc 0))
least_times_minus_one = refl

greatest_times_two : overflows (of_numbers greatest Mul (pos 2))
greatest_times_two = refl

greatest_times_greatest : overflows (of_numbers greatest Mul greatest)
greatest_times_greatest = refl

-- ---- quotients towards zero, remainders with the sign of the dividend

quotient_of_both_positive : is_number (pos 3) (of_numbers (pos 7) Div (pos 2))
quotient_of_both_positive = refl

quotient_of_negative : is_number (negsuc 2) (of_numbers (negsuc 6) Div (pos 2))
quotient_of_negative = refl

quotient_by_negative : is_number (negsuc 2) (of_numbers (pos 7) Div (negsuc 1))
quotient_by_negative = refl

quotient_of_both_negative : is_number (pos 3) (of_numbers (negsuc 6) Div (negsuc 1))
quotient_of_both_negative = refl

remainder_of_both_positive : is_number (pos 1) (of_numbers (pos 7) Rem (pos 2))
remainder_of_both_positive = refl

remainder_of_negative : is_number (negsuc 0) (of_numbers (negsuc 6) Rem (pos 2))
remainder_of_negative = refl

remainder_by_negative : is_number (pos 1) (of_numbers (pos 7) Rem (negsuc 1))
remainder_by_negative = refl

remainder_of_both_negative : is_number (negsuc 0) (of_numbers (negsuc 6) Rem (negsuc 1))
remainder_of_both_negative = refl

least_by_one : is_number least (of_numbers least Div (pos 1))
least_by_one = refl

least_rest_by_one : is_number (pos 0) (of_numbers least Rem (pos 1))
least_rest_by_one = refl

greatest_by_minus_one : is_number (negsuc 9223372036854775806) (of_numbers greatest Div (negsuc 0))
greatest_by_minus_one = refl

least_by_least : is_number (pos 1) (of_numbers least Div least)
least_by_least = refl

least_by_minus_one : overflows (of_numbers least Div (negsuc 0))
least_by_minus_one = refl

least_rest_by_minus_one : overflows (of_numbers least Rem (negsuc 0))
least_rest_by_minus_one = refl

one_by_zero : divides_by_zero (of_numbers (pos 1) Div (pos 0))
one_by_zero = refl

one_rest_by_zero : divides_by_zero (of_numbers (pos 1) Rem (pos 0))
one_rest_by_zero = refl

least_by_zero : divides_by_zero (of_numbers least Div (pos 0))
least_by_zero = refl

zero_rest_by_zero : divides_by_zero (of_numbers (pos 0) Rem (pos 0))
zero_rest_by_zero = refl

-- ---- comparisons

least_below_greatest : is_yes (of_numbers least Less greatest)
least_below_greatest = refl

minus_one_below_zero : is_yes (of_numbers (negsuc 0) Less (pos 0))
minus_one_below_zero = refl

zero_not_below_minus_one : is_no (of_numbers (pos 0) Less (negsuc 0))
zero_not_below_minus_one = refl

not_below_itself : is_no (of_numbers greatest Less greatest)
not_below_itself = refl

at_most_itself : is_yes (of_numbers greatest LessEq greatest)
at_most_itself = refl

zero_not_at_most_least : is_no (of_numbers (pos 0) LessEq least)
zero_not_at_most_least = refl

greatest_above_least : is_yes (of_numbers greatest Greater least)
greatest_above_least = refl

not_above_itself : is_no (of_numbers least Greater least)
not_above_itself = refl

at_least_itself : is_yes (of_numbers least GreaterEq least)
at_least_itself = refl

least_not_at_least_zero : is_no (of_numbers least GreaterEq (pos 0))
least_not_at_least_zero = refl

equal_to_itself : is_yes (of_numbers (negsuc 0) Equal (negsuc 0))
equal_to_itself = refl

not_equal_to_another : is_no (of_numbers (negsuc 0) Equal (pos 1))
not_equal_to_another = refl

differs_from_another : is_yes (of_numbers least NotEqual greatest)
differs_from_another = refl

does_not_differ_from_itself : is_no (of_numbers least NotEqual least)
does_not_differ_from_itself = refl

-- ---- `-` and `!`

minus_greatest : is_number (negsuc (2 ^ 63 - 2)) (course (a_minus (a_number greatest) (column 5)))
minus_greatest = refl

minus_least : overflows (course (a_minus (a_number least) (column 5)))
minus_least = refl

minus_zero : is_number (pos 0) (course (a_minus (a_number (pos 0)) (column 5)))
minus_zero = refl

not_true : is_no (course (a_not (a_truth true)))
not_true = refl

not_false : is_yes (course (a_not (a_truth false)))
not_false = refl

-- ---- fields: null is a fault at the `.`, else the cell is read

null_field : course (a_field (a_local 0) 3 (column 5)) ≡ ends_in (Null (column 5))
null_field = refl

object_field : course (a_field (a_local 1) 3 (column 5)) ≡ reads 7 3 (λ word. comes_to word)
object_field = refl

shared_field : course (a_shared 3) ≡ reads 1 3 (λ word. comes_to word)
shared_field = refl

-- where the first field is null, that is told at the second `.`, after one read
second_field : course (a_field (a_field (a_local 1) 3 (column 5)) 0 (column 9)) ≡ reads 7 3 (λ word. course_of (λ _ _. ends_in Spent) (a_field (a_local 0) 0 (column 9)) (word ∷ []))
second_field = refl

-- ---- the first fault from the left, and what is not evaluated

-- a division by zero, at this column
abbrev fault_at : ℕ → Term
fault_at n = a_binary Div (a_number (pos 1)) (a_number (pos 0)) (column n)

left_operand_first : course (a_binary Add (fault_at 1) (fault_at 2) (column 5)) ≡ ends_in (Divide (column 1))
left_operand_first = refl

operands_before_operator : course (a_binary Add (a_number greatest) (fault_at 2) (column 5)) ≡ ends_in (Divide (column 2))
operands_before_operator = refl

and_after_false : is_no (course (a_both (a_truth false) (fault_at 2)))
and_after_false = refl

and_after_true : course (a_both (a_truth true) (fault_at 2)) ≡ ends_in (Divide (column 2))
and_after_true = refl

or_after_true : is_yes (course (an_either (a_truth true) (fault_at 2)))
or_after_true = refl

or_after_false : course (an_either (a_truth false) (fault_at 2)) ≡ ends_in (Divide (column 2))
or_after_false = refl

first_branch : is_number (pos 4) (course (a_cond (a_truth true) (a_number (pos 4)) (fault_at 2)))
first_branch = refl

second_branch : is_number (pos 4) (course (a_cond (a_truth false) (fault_at 1) (a_number (pos 4))))
second_branch = refl

test_first : course (a_cond (fault_at 1) (fault_at 2) (fault_at 3)) ≡ ends_in (Divide (column 1))
test_first = refl
