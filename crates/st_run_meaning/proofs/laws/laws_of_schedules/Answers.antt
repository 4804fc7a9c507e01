use Rattle.std.proofs.Common.{refl}
use Rattle.st_run_meaning.specs.Agents.{mutator, check}
use Rattle.st_run_meaning.proofs.AgentLemmas as agents
use Rattle.st_run_meaning.proofs.EndLemmas as ends
use Rattle.st_run_meaning.proofs.RoomLemmas as room
use Rattle.st_run_meaning.proofs.RunLemmas as runs
use Rattle.st_run_meaning.proofs.SoundLemmas as sound
use Rattle.st_run_meaning.proofs.laws.laws_of_schedules.Goals as goal

pub returns-clause-right : goal.returns-clause-right
returns-clause-right c = λ shape p sizes seed formed limits threads. runs.scheduled_run_is_right shape p sizes seed formed limits threads

pub returns-clause-end : goal.returns-clause-end
returns-clause-end c = ends.runs_come_to_one_end

pub returns-clause-sound : goal.returns-clause-sound
returns-clause-sound c = record {
  first = λ shape p sizes seed formed. sound.first_is_sound shape p formed sizes seed;
  turn = λ shape p sizes s a formed h chosen. sound.turn_keeps_sound shape p formed sizes s a h (agents.chosen_is_ready shape p sizes s a chosen);
}

pub returns-clause-left : goal.returns-clause-left
returns-clause-left c = record {
  events = λ shape p sizes s m h chosen. ends.events_fall shape p sizes s m h.led (agents.chosen_is_ready shape p sizes s (mutator m) chosen);
  no_event = λ shape p sizes s n. refl;
  reads = λ shape p sizes s n chosen. ends.reads_fall shape p sizes s n (agents.chosen_is_ready shape p sizes s (check n) chosen);
}

pub returns-clause-room : goal.returns-clause-room
returns-clause-room c = record {
  events = λ shape p sizes s h. (room.sound_state_has_room shape p sizes s h).events;
  checks = λ shape p sizes s h. (room.sound_state_has_room shape p sizes s h).checks;
}
