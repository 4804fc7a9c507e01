-- What a derivation gives again: the same tree without its places from the terminals without theirs, and the words of the tree.
use Rattle.std.proofs.Common.{◌≡◌, List, map, refl, sym, subst}
use Rattle.std.specs.List.{flat_map}
use Rattle.std.proofs.lemmas.List.{map-append}
use Rattle.st_ast.specs.Words.{Word}
use Rattle.st_grammar.specs.Grammar.{AreMany, none, more}
use Rattle.st_grammar.specs.Terminals.{Terminal}
use Rattle.st_canonical_laws.proofs.Written.{blank, Written, wrote_none, wrote_all}

-- the terminals without their places spell the tree given here, and they are written as these words
pub record Again {A : Type 0} (IsIt : List Terminal → A → Type 0) (ts : List Terminal) (a : A) (ws : List Word) : Type 0 where
  pub again : IsIt (map blank ts) a
  pub written : Written ts ws

-- the same by other names of the terminals, of the tree and of the words
pub made : {A : Type 0} {IsIt : List Terminal → A → Type 0} {ts us : List Terminal} {a b : A} {ws vs : List Word}
    → map blank ts ≡ us → a ≡ b → ws ≡ vs → IsIt us b → Written ts vs → Again IsIt ts a ws
made {IsIt = IsIt} {ts = ts} {us = us} {a = a} e f g x y = record {
  again = subst (λ l. IsIt l a) (sym e) (subst (IsIt us) (sym f) x);
  written = subst (Written ts) (sym g) y;
}

-- a rule that hands its terminals and its tree on
pub handed : {A : Type 0} {IsIt IsThat : List Terminal → A → Type 0} {ts : List Terminal} {a : A} {ws : List Word}
    → (IsIt (map blank ts) a → IsThat (map blank ts) a) → Again IsIt ts a ws → Again IsThat ts a ws
handed f h = record { again = f h.again; written = h.written }

-- items one after another
pub many_again : {A : Type 0} {IsIt : List Terminal → A → Type 0} (bare : A → A) (words : A → List Word)
    → ((ts : List Terminal) (a : A) → IsIt ts a → Again IsIt ts (bare a) (words a)) → {ts : List Terminal} {items : List A} → AreMany IsIt ts items
    → Again (AreMany IsIt) ts (map bare items) (flat_map words items)
many_again bare words each none = record { again = none; written = wrote_none }
many_again bare words each (more {ts = ts} {us = us} {item = item} h r) =
    made (map-append blank ts us) refl refl (more (each ts item h).again (many_again bare words each r).again)
    (wrote_all (each ts item h).written (many_again bare words each r).written)
