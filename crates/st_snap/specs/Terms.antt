-- The terms of events, shapes, heaps, worlds and journals that most files of this crate need: a file brings them in by one line.
pub use Rattle.st_events.specs.Heap.{Object, Heap, word_of, word_at, with_object, set_word, with_word, fresh, first_heap, heap_of}
pub use Rattle.st_events.specs.History.{heap_after, active_checks, kept_rows, lost_pairs, launch_of}
pub use Rattle.st_events.specs.Legal.{fits_cell, args_fit, next_object, IsLegalNext}
unfoldable pub use Rattle.st_events.specs.Legal.{IsLegal}
pub use Rattle.st_events.specs.LegalEvents.{LegalNew}
pub use Rattle.st_events.specs.Shape.{ShapeLists, IsWithinLimits}
pub use Rattle.st_events.specs.Sizes.{AreWithinLimits}
pub use Rattle.st_events.specs.World.{Launched, Row, Pair, World, at, first_world, needing_in, changed, is_among, is_lost, without, next, world_from, world_after}
pub use Rattle.st_events.specs.declared.events.Args.{Args}
pub use Rattle.st_events.specs.declared.events.Event.{Event}
pub use Rattle.st_events.specs.declared.events.Event.TheVariants.{New, Load, Store, Cas, Launch, Retire}
pub use Rattle.st_events.specs.declared.limits.Sizes.{Sizes}
