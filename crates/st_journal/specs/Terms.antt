-- The types of events and verdicts that most files need: a file brings them in by one line.
pub use Rattle.st_events.specs.declared.events.Args.{Args}
pub use Rattle.st_events.specs.declared.events.Event.{Event}
pub use Rattle.st_events.specs.declared.events.Event.TheVariants.{New, Load, Store, Cas, Launch, Retire}
pub use Rattle.st_events.specs.declared.events.Site.{Site}
pub use Rattle.st_events.specs.declared.limits.Sizes.{Sizes}
pub use Rattle.st_events.specs.declared.verdicts.Plain.{Plain}
pub use Rattle.st_events.specs.declared.verdicts.Verdict.{Verdict}
pub use Rattle.st_events.specs.Sizes.{AreWithinLimits}
