use Rattle.st_thread_meaning.proofs.FollowLemmas as following
use Rattle.st_thread_meaning.proofs.LoopLemmas as loops
use Rattle.st_thread_meaning.proofs.MeansLemmas as means
use Rattle.st_thread_meaning.proofs.RightLemmas as verdicts
use Rattle.st_thread_meaning.proofs.TypedJournals as typed
use Rattle.st_thread_meaning.proofs.laws.laws_of_threads.Goals as goal

pub returns-clause-loops : goal.returns-clause-loops
returns-clause-loops c = λ p depth test body locals m rest. loops.loop_by_turns p depth test body locals m rest

pub returns-clause-replies : goal.returns-clause-replies
returns-clause-replies c = following.events_lead_by_replies

pub returns-clause-one_end : goal.returns-clause-one_end
returns-clause-one_end c = following.threads_have_one_end

pub returns-clause-means : goal.returns-clause-means
returns-clause-means c = means.threads_keep_within_means

pub returns-clause-judge : goal.returns-clause-judge
returns-clause-judge c = λ shape p limits. verdicts.verdicts_make_a_judge shape p limits

pub returns-clause-pool : goal.returns-clause-pool
returns-clause-pool c = λ shape p sizes limits es number verdict legal enough right. verdicts.copies_abandon_nothing shape p sizes limits es number verdict legal enough right

pub returns-clause-legal : goal.returns-clause-legal
returns-clause-legal c = λ shape p sizes right es thread turn legal leads. typed.threads_ask_legally shape p sizes right es thread turn legal leads
