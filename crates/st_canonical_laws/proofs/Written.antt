-- Terminals as the canonical text writes them.
use Rattle.std.proofs.Common.{◌≡◌, ℕ, ℤ, Bool, true, false, List, [], ◌∷◌, ◌++◌, Option, Some, None, refl, ap, ◌∙◌}
use Rattle.std.specs.Prelude.{codes}
use Rattle.std.specs.Fmt.{signed_decimal}
use Rattle.st_ast.specs.declared.operators.Op.{Op}
use Rattle.st_ast.specs.Words.{Word, op_word}
use Rattle.st_grammar.specs.declared.operators.Chain.{Chain}
use Rattle.st_grammar.specs.declared.operators.Chain.TheVariants as chain
use Rattle.st_grammar.specs.declared.sorts.Sort.{Sort}
use Rattle.st_grammar.specs.declared.sorts.Sort.TheVariants as sort
use Rattle.st_grammar.specs.Operators.{chained, compared, IsChained, IsCompared}
use Rattle.st_grammar.specs.Terminals.{Terminal, Is}
use Rattle.st_canonical_laws.specs.Placeless.{nowhere}

-- the word of a terminal of this sort, with these bytes and this value
abbrev pub word_of : Sort → List ℕ → ℤ → Word
word_of sort.Name bytes value = bytes
word_of sort.Number bytes value = signed_decimal value
word_of sort.Class bytes value = codes "class"
word_of sort.Shared bytes value = codes "shared"
word_of sort.Pred bytes value = codes "pred"
word_of sort.Proc bytes value = codes "proc"
word_of sort.Thread bytes value = codes "thread"
word_of sort.Var bytes value = codes "var"
word_of sort.If bytes value = codes "if"
word_of sort.Else bytes value = codes "else"
word_of sort.While bytes value = codes "while"
word_of sort.Check bytes value = codes "check"
word_of sort.New bytes value = codes "new"
word_of sort.Cas bytes value = codes "cas"
word_of sort.Null bytes value = codes "null"
word_of sort.True bytes value = codes "true"
word_of sort.False bytes value = codes "false"
word_of sort.Int bytes value = codes "int"
word_of sort.Bool bytes value = codes "bool"
word_of sort.OpenBrace bytes value = codes "{"
word_of sort.CloseBrace bytes value = codes "}"
word_of sort.OpenParen bytes value = codes "("
word_of sort.CloseParen bytes value = codes ")"
word_of sort.Semicolon bytes value = codes ";"
word_of sort.Colon bytes value = codes ":"
word_of sort.Comma bytes value = codes ","
word_of sort.Dot bytes value = codes "."
word_of sort.Assign bytes value = codes "="
word_of sort.Equal bytes value = codes "=="
word_of sort.NotEqual bytes value = codes "!="
word_of sort.Less bytes value = codes "<"
word_of sort.LessEq bytes value = codes "<="
word_of sort.Greater bytes value = codes ">"
word_of sort.GreaterEq bytes value = codes ">="
word_of sort.Plus bytes value = codes "+"
word_of sort.Minus bytes value = codes "-"
word_of sort.Star bytes value = codes "*"
word_of sort.Slash bytes value = codes "/"
word_of sort.Percent bytes value = codes "%"
word_of sort.Not bytes value = codes "!"
word_of sort.Both bytes value = codes "&&"
word_of sort.Either bytes value = codes "||"
word_of sort.Question bytes value = codes "?"
word_of sort.Other bytes value = []

-- the sorts that rules use
abbrev pub is_used : Sort → Bool
is_used sort.Other = false
is_used s = true

-- how a terminal is written
abbrev pub word : Terminal → Word
word t = word_of t.sort t.bytes t.value

-- the terminal without its place, as it is written
abbrev pub blank : Terminal → Terminal
blank t = record { sort = t.sort; bytes = word t; value = t.value; site = nowhere }

-- the terminal is written as this word
pub record IsWord (t : Terminal) (w : Word) : Type 0 where
  pub used : is_used t.sort ≡ true
  pub bytes : word t ≡ w

-- the terminals are written as these words
pub data Written : List Terminal → List Word → Type 0 where
  wrote_none : Written [] []
  wrote : {t : Terminal} {ts : List Terminal} {w : Word} {ws : List Word} → IsWord t w → Written ts ws → Written (t ∷ ts) (w ∷ ws)

-- two lists of terminals are written one after the other
pub wrote_all : {ts us : List Terminal} {ws vs : List Word} → Written ts ws → Written us vs → Written (ts ++ us) (ws ++ vs)
wrote_all wrote_none q = q
wrote_all (wrote h p) q = wrote h (wrote_all p q)

-- a terminal of a sort
pub is_word : {s : Sort} {t : Terminal} → is_used s ≡ true → Is s t → IsWord t (word_of s t.bytes t.value)
is_word {t = t} used h = record { used = ap is_used h.same ∙ used; bytes = ap (λ s. word_of s t.bytes t.value) h.same }

-- a terminal keeps its sort without its place
pub blank_is : {s : Sort} {t : Terminal} → Is s t → Is s (blank t)
blank_is h = record { same = h.same }

-- a name is written as it is
pub name_is : {t : Terminal} → Is sort.Name t → word t ≡ t.bytes
name_is {t = t} h = ap (λ s. word_of s t.bytes t.value) h.same

some_op : Option Op → Op → Op
some_op (Some o) other = o
some_op None other = other

-- an operator is written as its mark
chained_word : (c : Chain) (s : Sort) (o : Op) (bytes : List ℕ) (value : ℤ) → chained c s ≡ Some o → (is_used s ≡ true) × (word_of s bytes value ≡ op_word o)
unfolding some_op
chained_word chain.Either sort.Either o bytes value e = (refl, ap (λ x. op_word (some_op x o)) e)
chained_word chain.Both sort.Both o bytes value e = (refl, ap (λ x. op_word (some_op x o)) e)
chained_word chain.Sum sort.Plus o bytes value e = (refl, ap (λ x. op_word (some_op x o)) e)
chained_word chain.Sum sort.Minus o bytes value e = (refl, ap (λ x. op_word (some_op x o)) e)
chained_word chain.Product sort.Star o bytes value e = (refl, ap (λ x. op_word (some_op x o)) e)
chained_word chain.Product sort.Slash o bytes value e = (refl, ap (λ x. op_word (some_op x o)) e)
chained_word chain.Product sort.Percent o bytes value e = (refl, ap (λ x. op_word (some_op x o)) e)
chained_word _ _ o bytes value e = absurd cc

compared_word : (s : Sort) (o : Op) (bytes : List ℕ) (value : ℤ) → compared s ≡ Some o → (is_used s ≡ true) × (word_of s bytes value ≡ op_word o)
unfolding some_op
compared_word sort.Equal o bytes value e = (refl, ap (λ x. op_word (some_op x o)) e)
compared_word sort.NotEqual o bytes value e = (refl, ap (λ x. op_word (some_op x o)) e)
compared_word sort.Less o bytes value e = (refl, ap (λ x. op_word (some_op x o)) e)
compared_word sort.LessEq o bytes value e = (refl, ap (λ x. op_word (some_op x o)) e)
compared_word sort.Greater o bytes value e = (refl, ap (λ x. op_word (some_op x o)) e)
compared_word sort.GreaterEq o bytes value e = (refl, ap (λ x. op_word (some_op x o)) e)
compared_word _ o bytes value e = absurd cc

-- an operator of a chain is written as the tree's operator is spelled
pub chained_is : (c : Chain) {o : Op} {t : Terminal} → IsChained c o t → IsWord t (op_word o)
chained_is c {o = o} {t = t} h = let p = chained_word c t.sort o t.bytes t.value h.same in record { used = p.0; bytes = p.1 }

-- so is a comparison
pub compared_is : {o : Op} {t : Terminal} → IsCompared o t → IsWord t (op_word o)
compared_is {o = o} {t = t} h = let p = compared_word t.sort o t.bytes t.value h.same in record { used = p.0; bytes = p.1 }

-- without its place it is the same operator
pub blank_chained : {c : Chain} {o : Op} {t : Terminal} → IsChained c o t → IsChained c o (blank t)
blank_chained h = record { same = h.same }

-- and the same comparison
pub blank_compared : {o : Op} {t : Terminal} → IsCompared o t → IsCompared o (blank t)
blank_compared h = record { same = h.same }
