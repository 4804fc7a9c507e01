-- Forwarding words: where a change of an object sends the checks that need its version
use Rattle.std.specs.Prelude.{ℕ, nat_lt, if◌then◌else◌, List, [], ◌∷◌, Option, Some, None}
use Rattle.st_snap.specs.declared.headers.Forward.{Forward}
use Rattle.st_snap.specs.declared.headers.Target.{Target}

-- the forwarding word of a lane after a change of an object with this stamp: a check launched after the stamp is sent to the target
abbrev pub forward_one : ℕ → Target → Option ℕ → Forward → Forward
forward_one stamp target None before = before
forward_one stamp target (Some number) before = if nat_lt stamp number then record { epoch = number; target = target } else before

-- the same of every lane
abbrev pub forward_all : ℕ → Target → List (Option ℕ) → List Forward → List Forward
forward_all stamp target lanes [] = []
forward_all stamp target [] (f ∷ fs) = f ∷ fs
forward_all stamp target (lane ∷ lanes) (f ∷ fs) = forward_one stamp target lane f ∷ forward_all stamp target lanes fs
