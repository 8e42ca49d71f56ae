-- All that is promised beside the contracts of functions, as one statement. README.md's table says each field in plain words.
use Rattle.integers.specs.NearestEven.{RIsNearestEven}
use Rattle.thermometer.specs.Equations.{AnswersBracketed, FNearEquation}
use Rattle.promise.specs.Promise.{DemandThree}
use Rattle.promise.specs.Restart.{Restarts}
use Rattle.promise.specs.WithoutBias.{WithoutBias}
use Rattle.promise.specs.BeforeBias.{DistanceBeforeBias}
use Rattle.promise.specs.SameScenes.{SameScenes, ScenesShown}
use Rattle.promise.specs.CountBehind.{CountsBehind, SameAfterRestart, HigherCountHigherT, AnswersSay}
use Rattle.promise.specs.Thermometers.{FedThermometersBracketed}
use Rattle.feeds.specs.FeedList.{DemandThreeInOneCall}
use Rattle.live.specs.Runs.{DemandThreeByStates}

pub record Theorem : Type 0 where
  -- document 01, demand 3: of every list of feeds; of one that is fed in one call; of one that is fed through states
  pub demand_three : DemandThree
  pub demand_three_in_one_call : DemandThreeInOneCall
  pub demand_three_by_states : DemandThreeByStates
  -- the restart law: a product depends on the records of its window alone
  pub restarts : Restarts
  -- request W1
  pub without_bias : WithoutBias
  -- request W3
  pub same_scenes : SameScenes
  pub scenes_shown : ScenesShown
  -- request W4
  pub distance_before_bias : DistanceBeforeBias
  -- request W5
  pub counts_behind : CountsBehind
  pub answers_say : AnswersSay
  pub higher_count_higher_t : HigherCountHigherT
  pub same_after_restart : SameAfterRestart
  -- request W6
  pub r_is_nearest_even : RIsNearestEven
  -- request W7
  pub answers_bracketed : AnswersBracketed
  pub F_near_equation : FNearEquation
  pub fed_thermometers_bracketed : FedThermometersBracketed
