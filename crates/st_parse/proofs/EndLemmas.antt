-- The place after a byte.
use Rattle.std.proofs.Common.{◌≡◌, ℕ, ◌+◌, ◌<◌, ◌≤◌, Bool, true, false, List, [], ◌∷◌, length, take, drop, get_or, refl, ap, sym, subst, ◌∙◌, arith}
use Rattle.std.specs.List.{list_all}
use Rattle.std.proofs.lemmas.List.{drop_more}
use Rattle.st_events.specs.declared.events.Site.{Site}
use Rattle.st_lex.specs.Bytes.{is_newline, is_comment_byte}
use Rattle.st_lex.specs.Places.{place_at, line_at, column_at}
use Rattle.st_lex.proofs.PlaceLemmas.{newline_ends_its_line, newline_starts_a_column, place_flat}
use Rattle.st_parse.specs.Outcomes.{place_after}

abbrev site : ℕ → ℕ → Site
site line column = record { line = line; column = column }

-- the place of the next offset is the place after the byte
pub place_at_next : (text : List ℕ) (k : ℕ) → k < length text → place_after (place_at text k) (get_or text k 0) ≡ place_at text (k + 1)
place_at_next text k within = by (is_newline (get_or text k 0)) refl
  where
    flat : is_newline (get_or text k 0) ≡ false → list_all is_comment_byte (take 1 (drop k text)) ≡ true
    flat e = rw (drop_more text k 0 within, e) refl

    by : (b : Bool) → is_newline (get_or text k 0) ≡ b → place_after (place_at text k) (get_or text k 0) ≡ place_at text (k + 1)
    by true e =
        rw e (ap (λ (line : ℕ). site line 1) (sym (newline_ends_its_line text k within e))
        ∙ ap (site (line_at text (k + 1))) (sym (newline_starts_a_column text k within e)))
    by false e =
        let moved = place_flat text k 1 (omega arith) (flat e) in
        rw e (ap (λ (line : ℕ). site line (column_at text k + 1)) (sym moved.0) ∙ ap (site (line_at text (k + 1))) (sym moved.1))
