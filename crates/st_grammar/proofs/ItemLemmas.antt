-- Lists of what a program has.
use Rattle.std.proofs.Common.{◌≡◌, ℕ, true, if◌then◌else◌, ◌||◌, List, [], ◌∷◌, ◌++◌, map, Result, Ok, Err, take, drop, get_or, length, ◌<◌, ◌+◌, refl}
use Rattle.std.proofs.Common.{ap, sym, ◌∙◌, append_assoc}
use Rattle.std.specs.Prelude.{OnOk}
use Rattle.std.proofs.lemmas.List.{drop_more, take_more, map-append}
use Rattle.std.specs.List.{flat_map, list_any}
use Rattle.std.specs.Str.{bytes_eq}
use Rattle.st_grammar.specs.declared.counts.Item.TheVariants as item
use Rattle.st_grammar.specs.declared.counts.What.TheVariants as what
use Rattle.st_grammar.specs.Counts as spec
use Rattle.st_grammar.specs.declared.mentions.Mention.{Mention}
use Rattle.st_grammar.specs.Mentions.{mention_view, mention_views}

-- the last call's answer, where its list is read otherwise
pub ok_as : {T E A : Type 0} (r : Result T E) (x y z : A) → OnOk r (x ≡ y) → y ≡ z → OnOk r (x ≡ z)
ok_as (Ok t) x y z h e = h ∙ e
ok_as (Err e) x y z h same = tt

-- two lists added one after the other
pub added_twice : {A : Type 0} (a b c x y : List A) → b ≡ a ++ x → c ≡ b ++ y → c ≡ a ++ (x ++ y)
added_twice a b c x y h k = k ∙ ap (λ l. l ++ y) h ∙ append_assoc a x y

-- whether one of these mentions has the name is asked of their names, wherever the bytes of these lie
pub is_named_of_views : (ms : List Mention) (name : List ℕ) → spec.is_named (mention_views ms) name ≡ list_any (λ m. bytes_eq m.name.now name) ms
is_named_of_views [] name = refl
is_named_of_views (m ∷ ms) name = ap (λ b. bytes_eq m.name.now name || b) (is_named_of_views ms name)

-- the next mention, and those after it
pub next_argument : (ms : List Mention) (k : ℕ) (d : Mention) → k < length ms
    → spec.argument_items (mention_views (take k ms)) (mention_views (drop k ms))
    ≡ spec.argument_item (mention_views (take k ms)) (mention_view (get_or ms k d))
    ++ spec.argument_items (mention_views (take (k + 1) ms)) (mention_views (drop (k + 1) ms))
next_argument ms k d within =
    let longer : mention_views (take (k + 1) ms) ≡ mention_views (take k ms) ++ mention_view (get_or ms k d) ∷ [] =
    ap mention_views (take_more ms k d within) ∙ map-append mention_view (take k ms) (get_or ms k d ∷ []) in
    ap (λ l. spec.argument_items (mention_views (take k ms)) (mention_views l)) (drop_more ms k d within)
    ∙ ap (λ l. spec.argument_item (mention_views (take k ms)) (mention_view (get_or ms k d)) ++ spec.argument_items l (mention_views (drop (k + 1) ms))) (sym longer)

-- a mention of a name that stands before is no argument
pub no_item : (before : List spec.Mention) (m : spec.Mention) → spec.is_named before m.name ≡ true → spec.argument_item before m ≡ []
no_item before m e = ap (λ b. if b then [] else item.One what.CheckArgs m.site ∷ []) e
