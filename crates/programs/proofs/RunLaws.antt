-- Turns in a row: none, one more, and the last one.
use Prim.Native.Nat.{ℕ, ◌+◌}
use native.Mathlib.Omega.{arith}
use mathlib.Core.Path.{◌≡◌, refl, sym, ap, ◌∙◌}
use mathlib.Core.Bool.{Bool, true, false}
use mathlib.Core.Logic.{inl, inr}
use mathlib.Core.List.{List, [], ◌∷◌, ◌++◌}
use lib.ListN.{length, take, length-append}
use lib.Seq.{length-take-le}
use Rattle.lists.proofs.All.{all_none, all_one, all_appended}
use Rattle.record.specs.Record.{record_size}
use Rattle.calibrator.specs.declared.Calibrator.{Calibrator}
use Rattle.calibrator.specs.Feeding.{Feed, step, calibrator_after}
use Rattle.lines.specs.declared.Stop.{Stop}
use Rattle.lines.specs.Steps.{empty_product, record_fed}
use Rattle.programs.specs.declared.Next.{Next}
use Rattle.programs.specs.declared.Next.TheVariants.{More, Ended, Stopped}
use Rattle.programs.specs.declared.Turned.{Turned}
use Rattle.programs.specs.Steps.{turned_of}
use Rattle.programs.specs.Runs.{ReadTo, TurnIn, WholeFeed, most_turns, Reached, Ran}

-- ---- what comes after a turn is one of the three

pub ended_is_not_more : {next : Next} → next ≡ Ended → next ≡ More → ⊥
ended_is_not_more ended more = let z : ◌≡◌ {A = ℕ} 0 1 = cc in omega arith

pub stopped_is_not_more : {next : Next} {stop : Stop} → next ≡ Stopped stop → next ≡ More → ⊥
stopped_is_not_more stopped more = let z : ◌≡◌ {A = ℕ} 0 1 = cc in omega arith

-- ---- a turn behind which there is more fed a whole record

-- what such a turn did
pub record FedWhole (c : Calibrator) (scan : List ℕ) (t : Turned) : Type 0 where
  pub whole : length scan ≡ record_size
  pub calibrator_is : t.calibrator ≡ (record_fed c scan).calibrator

fed_whole : (c : Calibrator) (scan : List ℕ) (next : Next) (complete : Bool) → ReadTo (length scan) next → (turned_of c scan next complete).next ≡ More
    → FedWhole c scan (turned_of c scan next complete)
unfolding turned_of
fed_whole c [] More complete read more = absurd (omega (arith, read))
fed_whole c [] Ended complete read more = absurd (ended_is_not_more refl more)
fed_whole c [] (Stopped stop) complete read more = absurd (stopped_is_not_more refl more)
fed_whole c (byte ∷ rest) More true read more = record { whole = read; calibrator_is = refl }
fed_whole c (byte ∷ rest) Ended true read more = absurd (ended_is_not_more refl more)
fed_whole c (byte ∷ rest) (Stopped stop) true read more = absurd (stopped_is_not_more refl more)
fed_whole c (byte ∷ rest) next false read more = absurd (stopped_is_not_more refl more)

pub fed_whole_when_more : {c : Calibrator} {buffer : List ℕ} {t : Turned} (turn : TurnIn c buffer t) → t.next ≡ More → FedWhole c (take turn.size buffer) t
fed_whole_when_more {c} {buffer} {t} turn more =
    let is = turn.turn.turned_is in
    let long = length-take-le turn.size buffer turn.fits in
    let read : ReadTo (length (take turn.size buffer)) turn.next = rw long turn.read in
    rw is (fed_whole c (take turn.size buffer) turn.next turn.turn.complete read (ap (λ (u : Turned). u.next) (sym is) ∙ more))

-- ---- turns in a row

pub after_appended : (c : Calibrator) (feeds more : List Feed) → calibrator_after c (feeds ++ more) ≡ calibrator_after (calibrator_after c feeds) more
unfolding calibrator_after
after_appended c [] more = refl
after_appended c (feed ∷ feeds) more = after_appended (step c feed).calibrator feeds more

pub reached_none : (first : Calibrator) → Reached first 0 first
unfolding calibrator_after
reached_none first = record { feeds = []; many = refl; whole = all_none WholeFeed; calibrator_is = refl }

pub reached_one_more : {first c : Calibrator} {n m : ℕ} {buffer : List ℕ} {t : Turned} → Reached first n c → TurnIn c buffer t → t.next ≡ More → m ≡ n + 1
    → Reached first m t.calibrator
unfolding calibrator_after
reached_one_more {first} {c} {n} {m} {buffer} {t} reached turn more one_more =
    let fed = fed_whole_when_more turn more in
    let feed : Feed = record { scan = take turn.size buffer; buffer = empty_product } in record {
      feeds = reached.feeds ++ (feed ∷ []);
      many = simp length-append (omega (arith, reached.many, one_more));
      whole = all_appended WholeFeed reached.feeds (feed ∷ []) reached.whole (all_one WholeFeed (record { whole = fed.whole; buffer_is = refl }));
      calibrator_is =
          fed.calibrator_is
          ∙ ap (λ (d : Calibrator). (record_fed d feed.scan).calibrator) reached.calibrator_is
          ∙ sym (after_appended first reached.feeds (feed ∷ []));
    }

-- ---- a whole run

module _ {first c : Calibrator} {n : ℕ} (reached : Reached first n c) where
  pub ran_to_an_end : {buffer : List ℕ} {t : Turned} → TurnIn c buffer t → (t.next ≡ More → ⊥) → Ran first t
  ran_to_an_end {buffer} turn ends = record { turns = n; before = c; reached = reached; last = inl (record { buffer = buffer; turn = turn; ends = ends }) }

  pub ran_all_turns : n ≡ most_turns → Ran first (record { next = More; calibrator = c })
  ran_all_turns all = record { turns = n; before = c; reached = reached; last = inr (all, refl) }
