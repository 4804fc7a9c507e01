-- Legal journals: one more event, and a part
use Rattle.std.proofs.Common.{List, [], ◌∷◌, ◌++◌}
use Rattle.st_events.specs.Terms.{Event, Sizes, ShapeLists, World, next, world_from, world_after, first_world, IsLegalNext, IsLegalFrom, IsLegal}

-- the empty journal is legal
pub empty_is_legal : (shape : ShapeLists) (sizes : Sizes) → IsLegal shape sizes []
unfolding IsLegal
empty_is_legal shape sizes = tt

-- two legal journals, one after the other
pub joined_are_legal_from :
    (shape : ShapeLists) (sizes : Sizes) (w : World) (es fs : List Event)
    → IsLegalFrom shape sizes w es
    → IsLegalFrom shape sizes (world_from shape sizes w es) fs
    → IsLegalFrom shape sizes w (es ++ fs)
joined_are_legal_from shape sizes w [] fs l m = m
joined_are_legal_from shape sizes w (e ∷ es) fs l m = (l.0, joined_are_legal_from shape sizes (next shape sizes w e) es fs l.1 m)

-- the first part of a legal journal
pub first_are_legal_from :
    (shape : ShapeLists) (sizes : Sizes) (w : World) (es fs : List Event)
    → IsLegalFrom shape sizes w (es ++ fs)
    → IsLegalFrom shape sizes w es
first_are_legal_from shape sizes w [] fs l = tt
first_are_legal_from shape sizes w (e ∷ es) fs l = (l.0, first_are_legal_from shape sizes (next shape sizes w e) es fs l.1)

-- the rest of a legal journal
pub rest_are_legal_from :
    (shape : ShapeLists) (sizes : Sizes) (w : World) (es fs : List Event)
    → IsLegalFrom shape sizes w (es ++ fs)
    → IsLegalFrom shape sizes (world_from shape sizes w es) fs
rest_are_legal_from shape sizes w [] fs l = l
rest_are_legal_from shape sizes w (e ∷ es) fs l = rest_are_legal_from shape sizes (next shape sizes w e) es fs l.1

-- a prefix of a legal journal is legal
pub prefix_is_legal : (shape : ShapeLists) (sizes : Sizes) (es fs : List Event) → IsLegal shape sizes (es ++ fs) → IsLegal shape sizes es
unfolding IsLegal
prefix_is_legal shape sizes es fs l = first_are_legal_from shape sizes (first_world shape) es fs l

-- what follows a prefix is legal after it
pub rest_is_legal :
    (shape : ShapeLists) (sizes : Sizes) (es fs : List Event)
    → IsLegal shape sizes (es ++ fs)
    → IsLegalFrom shape sizes (world_after shape sizes es) fs
unfolding IsLegal
rest_is_legal shape sizes es fs l = rest_are_legal_from shape sizes (first_world shape) es fs l

-- one more event
pub one_more_is_legal :
    (shape : ShapeLists) (sizes : Sizes) (es : List Event) (e : Event)
    → IsLegal shape sizes es
    → IsLegalNext shape sizes (world_after shape sizes es) e
    → IsLegal shape sizes (es ++ e ∷ [])
unfolding IsLegal
one_more_is_legal shape sizes es e l n = joined_are_legal_from shape sizes (first_world shape) es (e ∷ []) l (n, tt)

-- a legal journal, and events that are legal after it
pub joined_is_legal :
    (shape : ShapeLists) (sizes : Sizes) (es fs : List Event)
    → IsLegal shape sizes es
    → IsLegalFrom shape sizes (world_after shape sizes es) fs
    → IsLegal shape sizes (es ++ fs)
unfolding IsLegal
joined_is_legal shape sizes es fs l m = joined_are_legal_from shape sizes (first_world shape) es fs l m

-- what every legal event keeps holds after every legal journal
pub stays_from :
    (shape : ShapeLists) (sizes : Sizes) (P : World → Type 0)
    → ((w : World) (e : Event) → P w → IsLegalNext shape sizes w e → P (next shape sizes w e))
    → (w : World) (es : List Event)
    → P w
    → IsLegalFrom shape sizes w es
    → P (world_from shape sizes w es)
stays_from shape sizes P step w [] p l = p
stays_from shape sizes P step w (e ∷ es) p l = stays_from shape sizes P step (next shape sizes w e) es (step w e p l.0) l.1

-- the same of a whole journal
pub stays :
    (shape : ShapeLists) (sizes : Sizes) (P : World → Type 0)
    → P (first_world shape)
    → ((w : World) (e : Event) → P w → IsLegalNext shape sizes w e → P (next shape sizes w e))
    → (es : List Event)
    → IsLegal shape sizes es
    → P (world_after shape sizes es)
unfolding IsLegal
stays shape sizes P first step es l = stays_from shape sizes P step (first_world shape) es first l

-- in a legal journal each event is legal after the events before it
pub each_is_legal :
    (shape : ShapeLists) (sizes : Sizes) (before rest : List Event) (e : Event)
    → IsLegal shape sizes (before ++ e ∷ rest)
    → IsLegalNext shape sizes (world_after shape sizes before) e
each_is_legal shape sizes before rest e l = (rest_is_legal shape sizes before (e ∷ rest) l).0
