-- The proof of the theorem: for each field the law that proves it. And that each field is the statement itself, with no premise before it.
use Rattle.integers.proofs.Nearest.{r_is_nearest_even}
use Rattle.thermometer.proofs.Bracketing.{answers_bracketed}
use Rattle.thermometer.proofs.EquationNear.{F_near_equation}
use Rattle.promise.proofs.Demand.{demand_three}
use Rattle.promise.proofs.RestartLaws.{restart}
use Rattle.promise.proofs.WithoutBiasLaws.{without_bias_lem}
use Rattle.promise.proofs.SceneClaims.{distance_before_bias}
use Rattle.promise.proofs.SameScenesLaws.{same_scenes, scenes_shown}
use Rattle.promise.proofs.CountLaws.{counts_behind, answers_say, higher_count_higher_t, same_after_restart}
use Rattle.promise.proofs.ThermometerLaws.{fed_thermometers_bracketed}
use Rattle.feeds.proofs.FeedListRuns.{demand_three_in_one_call}
use Rattle.live.proofs.StateRuns.{demand_three_by_states}
use Rattle.integers.specs.NearestEven.{RIsNearestEven}
use Rattle.thermometer.specs.Equations.{AnswersBracketed, FNearEquation}
use Rattle.promise.specs.Promise.{DemandThree}
use Rattle.promise.specs.Restart.{Restarts}
use Rattle.promise.specs.WithoutBias.{WithoutBias}
use Rattle.promise.specs.BeforeBias.{DistanceBeforeBias}
use Rattle.promise.specs.SameScenes.{SameScenes, ScenesShown}
use Rattle.promise.specs.CountBehind.{CountsBehind, SameAfterRestart, HigherCountHigherT, AnswersSay}
use Rattle.promise.specs.Thermometers.{FedThermometersBracketed}
use Rattle.feeds.specs.FeedList.{DemandThreeInOneCall}
use Rattle.live.specs.Runs.{DemandThreeByStates}
use Rattle.theorem.specs.Theorem.{Theorem}

pub theorem : Theorem
theorem = record {
  demand_three = demand_three;
  demand_three_in_one_call = demand_three_in_one_call;
  demand_three_by_states = demand_three_by_states;
  restarts = restart;
  without_bias = without_bias_lem;
  same_scenes = same_scenes;
  scenes_shown = scenes_shown;
  distance_before_bias = distance_before_bias;
  counts_behind = counts_behind;
  answers_say = answers_say;
  higher_count_higher_t = higher_count_higher_t;
  same_after_restart = same_after_restart;
  r_is_nearest_even = r_is_nearest_even;
  answers_bracketed = answers_bracketed;
  F_near_equation = F_near_equation;
  fed_thermometers_bracketed = fed_thermometers_bracketed;
}

pub theorem_says : Theorem
    → DemandThree × DemandThreeInOneCall × DemandThreeByStates × Restarts × WithoutBias × SameScenes × ScenesShown × DistanceBeforeBias
    × CountsBehind × AnswersSay × HigherCountHigherT × SameAfterRestart × RIsNearestEven × AnswersBracketed × FNearEquation × FedThermometersBracketed
theorem_says t = (
  t.demand_three,
  t.demand_three_in_one_call,
  t.demand_three_by_states,
  t.restarts,
  t.without_bias,
  t.same_scenes,
  t.scenes_shown,
  t.distance_before_bias,
  t.counts_behind,
  t.answers_say,
  t.higher_count_higher_t,
  t.same_after_restart,
  t.r_is_nearest_even,
  t.answers_bracketed,
  t.F_near_equation,
  t.fed_thermometers_bracketed,
)
