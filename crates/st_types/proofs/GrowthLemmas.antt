-- How far the code's walk is behind statements, and what room the limits leave.
use Rattle.std.proofs.Common.{◌≡◌, ◌+◌, List, map, length, Ok, ap, sym}
use Rattle.std.proofs.Common.{◌∙◌, subst, arith, append-nil}
use Rattle.std.proofs.lemmas.List.{length-map, take_all, drop_all}
use Rattle.st_ast.specs.declared.declarations.Program.{Program}
use Rattle.st_ast.specs.declared.statements.Stmt as trees
use Rattle.st_resolved.specs.declared.statements.Stmt.{Stmt}
use Rattle.st_types.specs.declared.walks.Walk.{Walk}
use Rattle.st_types.specs.Names.{Local}
use Rattle.st_types.specs.Statements.{Reached, walk, walk_all, walk_block, closed}
use Rattle.st_types.specs.Stepwise.{Stepped, SteppedBlock, step, step_all, step_block}
use Rattle.st_types.specs.Tallies.{Tally, joined, tally, tally_all}
use Rattle.st_types.specs.Walks.{reached_of, stepped_at, stepped_block_at, HasRoom}
use Rattle.st_types.proofs.CheckedLemmas.{value_is}
use Rattle.st_types.proofs.TallyLemmas.{HasGrown, walk_grows, walk_all_grows, block_grows}
use Rattle.st_types.proofs.WalkLemmas.{step_is_first, steps_are_first, stepped_of, stepped_block_of, block_is}

-- the code's walk has so many more locals and check statements behind it
pub record IsBehind (before after : Walk) (t : Tally) : Type 0 where
  pub locals : length after.locals.items ≡ length before.locals.items + t.locals
  pub checks : length after.checks.items ≡ length before.checks.items + t.checks

in_code : (before after : Walk) (t : Tally) → HasGrown (reached_of before) (reached_of after) t → IsBehind before after t
in_code before after t h = record {
  locals = simp length-map at h.locals;
  checks = simp length-map at h.checks;
}

-- behind a statement the walk of the code has the locals and check statements more that the statement has
pub behind_statement : (p : Program) (s : trees.Stmt) (before after : Walk) (done : Stmt) → step p s (reached_of before) ≡ Ok (stepped_at after done) → IsBehind before after (tally s)
behind_statement p s before after done h =
    let same = value_is (walk p s (reached_of before)).faults (stepped_of (walk p s (reached_of before))) (stepped_at after done) (sym (step_is_first p s (reached_of before)) ∙ h) in
    in_code before after (tally s) (subst (λ (t : Stepped). HasGrown (reached_of before) t.reached (tally s)) same (walk_grows p s (reached_of before)))

-- the same behind statements, one after another
pub behind_statements : (p : Program) (ss : List trees.Stmt) (before after : Walk) (done : List Stmt)
    → step_all (map (step p) ss) (reached_of before) ≡ Ok (stepped_block_at after done) → IsBehind before after (tally_all ss)
behind_statements p ss before after done h =
    let walked = walk_all (map (walk p) ss) (reached_of before) in
    let same = value_is walked.faults (stepped_block_of walked) (stepped_block_at after done) (sym (steps_are_first p ss (reached_of before)) ∙ h) in
    in_code before after (tally_all ss) (subst (λ (t : SteppedBlock). HasGrown (reached_of before) t.reached (tally_all ss)) same (walk_all_grows p ss (reached_of before)))

-- and behind a block, whose locals stay in the list when they are known no more
pub behind_block : (p : Program) (ss given : List trees.Stmt) (before after : Walk) (done : List Stmt) → given ≡ ss
    → step_block (map (step p) given) (reached_of before) ≡ Ok (stepped_block_at after done) → IsBehind before after (tally_all ss)
behind_block p ss given before after done g h =
    let r = reached_of before in
    let walks = map (walk p) given in
    let same = value_is (walk_block walks r).faults (stepped_block_of (walk_block walks r)) (stepped_block_at after done)
    (sym (block_is (map (step p) given) walks r (steps_are_first p given)) ∙ h) in
    in_code before after (tally_all ss) (subst (λ (t : SteppedBlock). HasGrown r t.reached (tally_all ss)) same
    (block_grows walks r (tally_all ss) (subst (λ ts. HasGrown r (walk_all walks r).reached (tally_all ts)) g (walk_all_grows p given r))))

-- the room for the first of two, and for the second behind it
pub room_for_first : (w : Walk) (a b : Tally) → HasRoom w (joined a b) → HasRoom w a
room_for_first w a b h = record { locals = omega (arith, h.locals); checks = omega (arith, h.checks); names = omega (arith, h.names) }

-- what the first of two parts leaves is room for the second
pub room_for_second : (before after : Walk) (a b : Tally) → HasRoom before (joined a b) → IsBehind before after a → HasRoom after b
room_for_second before after a b h k = record {
  locals = omega (arith, h.locals, k.locals);
  checks = omega (arith, h.checks, k.checks);
  names = omega (arith, h.names);
}

-- a block that declares nothing
pub nothing_closed : (r : Reached) → closed (length r.locals) r ≡ r
nothing_closed r =
    ap (λ (ls : List Local). let s : Reached = record { locals = ls; checks = r.checks } in s)
    (rw (take_all (length r.locals) r.locals (omega arith), drop_all (length r.locals) r.locals (omega arith)) (append-nil r.locals))
