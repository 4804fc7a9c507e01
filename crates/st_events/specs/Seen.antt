-- What a replay knows of the world.
use Rattle.std.specs.Prelude.{◌≡◌, ◌+◌, ◌*◌, [], length, get_or, Option, None}
use Rattle.st_events.specs.declared.events.Event.{Event}
use Rattle.st_events.specs.declared.heaps.TheConstants.{FIRST_OF_REGIONS}
use Rattle.st_events.specs.declared.errors.Why.{Why}
use Rattle.st_events.specs.declared.replaying.Replay.{Replay}
use Rattle.st_events.specs.Heap.{heap_of}
use Rattle.st_events.specs.World.{World}
use Rattle.st_events.specs.Legal.{illegal_reason}

-- two worlds that the legality of events cannot tell apart: of the same heap, objects made, epoch and active checks
pub record LooksAlike (w v : World) : Type 0 where
  pub heap : w.heap ≡ v.heap
  pub made : w.made ≡ v.made
  pub epoch : w.epoch ≡ v.epoch
  pub active : w.active ≡ v.active

-- the world as far as a replay knows it
abbrev pub seen : Replay → World
seen r = record {
  heap = heap_of r.heap;
  stamp = λ _. 0;
  made = λ m. get_or r.made.items m 0;
  epoch = r.launches;
  launched = λ _. None;
  active = r.active.items;
  kept = [];
  lost =
      [];
}

-- the first reason why an event is not legal after what a replay has seen
abbrev pub reason_of : Replay → Event → Option Why
reason_of r e = illegal_reason r.shape.now r.sizes.now (seen r) e

-- the replay has room for every object of every mutator
pub record HasRoom (r : Replay) : Type 0 where
  pub heap : length r.heap ≡ FIRST_OF_REGIONS + r.sizes.now.mutators * r.sizes.now.objects
  pub made : length r.made.items ≡ r.sizes.now.mutators
