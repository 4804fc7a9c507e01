use Rattle.std.proofs.Common.{◌≡◌, true}
use Rattle.st_events.proofs.WorldLemmas.{world_after_one_more}
use Rattle.st_events.proofs.LegalLemmas.{empty_is_legal, one_more_is_legal, prefix_is_legal, each_is_legal}
use Rattle.st_events.proofs.LegalEvents.{events_are_told}
use Rattle.st_events.proofs.ChargeLemmas.{charges_pay_for_launches}
use Rattle.st_events.proofs.CountLemmas.{epoch_counts_launches, made_counts_news}
use Rattle.st_events.proofs.JudgeLemmas.{judged_by_launch}
use Rattle.st_events.proofs.RetireLemmas.{launched_is_active_or_retired, retired_is_not_active, retired_is_launched, retired_at_one_ticket}
use Rattle.st_events.proofs.WordLemmas.{journal_holds_words, launches_hold_words}
use Rattle.st_events.proofs.SoundLemmas.{legal_is_sound}
use Rattle.st_events.proofs.ExtendsLemmas.{heap_extends, launch_stays, lost_stays}
use Rattle.st_events.proofs.LaunchLemmas.{launch_is_found, launch_is_known, launched_at_one_ticket}
use Rattle.st_events.proofs.PoolLemmas.{large_pool_loses_nothing}
use Rattle.st_events.proofs.laws.laws_of_journals.Goals as goal

pub returns : goal.returns
returns c = record {
  grow = record { empty = empty_is_legal; world = world_after_one_more; legal = one_more_is_legal; each = each_is_legal };
  prefixes = prefix_is_legal;
  events = events_are_told;
  sound = legal_is_sound;
  past = record { cells = heap_extends; launches = launch_stays; lost = lost_stays };
  launches = record { found = launch_is_found; known = launch_is_known; one_ticket = launched_at_one_ticket };
  retires = record {
    active_or_retired = launched_is_active_or_retired;
    not_both = retired_is_not_active;
    launched = retired_is_launched;
    one_ticket = retired_at_one_ticket;
  };
  counts = record { epoch = epoch_counts_launches; made = made_counts_news };
  charge = charges_pay_for_launches;
  words = record { heap = journal_holds_words; launches = launches_hold_words };
  judges = λ shape limits test more. judged_by_launch (λ sizes launch lost verdict. test sizes launch lost verdict ≡ true) more shape limits;
  pool = large_pool_loses_nothing;
}
