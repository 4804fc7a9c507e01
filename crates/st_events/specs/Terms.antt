-- The terms of events, shapes, heaps, worlds and journals that most files need: a file brings them in by one line.
pub use Rattle.st_events.specs.declared.events.Args.{Args}
pub use Rattle.st_events.specs.declared.events.Event.{Event}
pub use Rattle.st_events.specs.declared.events.Event.TheVariants.{New, Load, Store, Cas, Launch, Retire}
pub use Rattle.st_events.specs.declared.limits.Sizes.{Sizes}
pub use Rattle.st_events.specs.declared.shapes.Kind.{Kind}
pub use Rattle.st_events.specs.declared.verdicts.End.{End}
pub use Rattle.st_events.specs.declared.verdicts.Verdict.{Verdict}
pub use Rattle.st_events.specs.Shape.{ShapeLists, IsWithinLimits, kinds_of}
pub use Rattle.st_events.specs.Sizes.{AreWithinLimits}
pub use Rattle.st_events.specs.Heap.{Object, Heap, word_of, word_at, class_at, with_object, set_word, with_word, fresh, first_heap, heap_of}
pub use Rattle.st_events.specs.World.{Launched, Row, Pair, World, at, first_world, needing_in, changed, is_among, is_kept, is_lost, without}
pub use Rattle.st_events.specs.World.{next, world_from, world_after}
pub use Rattle.st_events.specs.Legal.{fits_cell, args_fit, next_object, illegal_reason, IsLegalNext, IsLegalFrom}
unfoldable pub use Rattle.st_events.specs.Legal.{IsLegal}
pub use Rattle.st_events.specs.LegalEvents.{LegalNew, LegalLoad, LegalStore, LegalCas, LegalLaunch, LegalRetire}
pub use Rattle.st_events.specs.History.{heap_after, epoch_of, stamp_of, active_checks, needing, kept_rows, lost_pairs, launch_of, own_events, objects_of}
pub use Rattle.st_events.specs.History.{IsLaunchIn, IsRetireIn, has_launch}
pub use Rattle.st_events.specs.Ran.{RanLists}
