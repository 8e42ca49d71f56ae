-- What a chain of iterators gives, in this crate's words by index: a test of all, a count, a sum, a list made by a rule.
use Rattle.std.proofs.Common.{◌≡◌, ℕ, zero, suc, ◌+◌, ◌<◌, ◌≤◌, Bool, true, false, ◌&&◌, cond, List, [], ◌∷◌, length, get_or, Option, None, Some, refl, sym, subst, ap, ◌∙◌, arith, Iter, Bor}
use Rattle.std.proofs.Math.Bool.{and_assoc, and-true}
use Rattle.std.proofs.Math.Nat.{sub-zero, zero-add}
use Rattle.std.proofs.Math.Seq.{ext_get_or}
use native.Mathlib.Decide.{dec_le}
use denote.Param.Members.{Mut}
use Rattle.std.specs.declared.ops.Range.{Range}
use Rattle.std.specs.Fn.{Called}
use Rattle.std.specs.List.{FoldsTo, sum_by, count_by, range_with_len}
use Rattle.std.specs.Iterator.{ChecksAll, AlwaysYields, Yields}
use Rattle.std.specs.Option.{MatchOption}
use Rattle.std.specs.Array.{IsFromFnResult, IsFromFnResultFrom}
use Rattle.std.specs.Slice.Iter.{iter_rest}
use Rattle.std.proofs.iter.Yields.{fronts, nat_range_steps}
use Rattle.std.proofs.lemmas.Iterator.{YieldsList, YieldsList-from_range, YieldsList-from_slice}
use Rattle.std.proofs.lemmas.List.FromFn.{length-range_with_len, get_or-range_with_len}
use Rattle.std.proofs.lemmas.List.Sums.{sum_by-cons}
use Rattle.lists.specs.Count.{every, count}
use Rattle.lists.specs.Sum.{sum}
use Rattle.lists.specs.Build.{tabulate}
use Rattle.lists.proofs.Sum.{sum_same}
use Rattle.lists.proofs.Tabulate.{length_tabulate, get_d_tabulate}

-- the first of a row, and the others
every_from_first : (holds : ℕ → Bool) (n : ℕ) → every holds (suc n) ≡ (holds 0 && every (λ i. holds (suc i)) n)
unfolding every
every_from_first holds zero = sym (and-true (holds 0))
every_from_first holds (suc n) = ap (λ b. b && holds (suc n)) (every_from_first holds n) ∙ and_assoc (holds 0) (every (λ i. holds (suc i)) n) (holds (suc n))

sum_from_first : (f : ℕ → ℕ) (n : ℕ) → sum f (suc n) ≡ f 0 + sum (λ i. f (suc i)) n
unfolding sum
sum_from_first f zero = omega arith
sum_from_first f (suc n) = omega (arith, sum_from_first f n)

count_from_first : (holds : ℕ → Bool) (n : ℕ) → count holds (suc n) ≡ cond (holds 0) 1 0 + count (λ i. holds (suc i)) n
unfolding count
count_from_first holds zero = omega arith
count_from_first holds (suc n) = omega (arith, count_from_first holds n)

-- over a list in std's words, and by index
module _ {A : Type 0} where
  sum_of_all : (f : A → ℕ) (xs : List A) (d : A) → sum_by f xs ≡ sum (λ i. f (get_or xs i d)) (length xs)
  unfolding sum
  sum_of_all f [] d = refl
  sum_of_all f (x ∷ xs) d = sum_by-cons f x xs ∙ ap (λ n. f x + n) (sum_of_all f xs d) ∙ sym (sum_from_first (λ i. f (get_or (x ∷ xs) i d)) (length xs))

  count_of_all : (test : A → Bool) (xs : List A) (d : A) → count_by test xs ≡ count (λ i. test (get_or xs i d)) (length xs)
  unfolding count
  count_of_all test [] d = refl
  count_of_all test (x ∷ xs) d =
      sum_by-cons (λ y. cond (test y) 1 0) x xs ∙ ap (λ n. cond (test x) 1 0 + n) (count_of_all test xs d)
      ∙ sym (count_from_first (λ i. test (get_or (x ∷ xs) i d)) (length xs))

  module _ {n : ℕ} (xs : List A) (d : A) (long : length xs ≡ n) where
    pub sum_of_list : (f : A → ℕ) → sum_by f xs ≡ sum (λ i. f (get_or xs i d)) n
    sum_of_list f = sum_of_all f xs d ∙ ap (sum _) long

    pub count_of_list : (test : A → Bool) → count_by test xs ≡ count (λ i. test (get_or xs i d)) n
    count_of_list test = count_of_all test xs d ∙ ap (count _) long

-- the numbers from 0 to n
pub sum_of_range : (f : ℕ → ℕ) (n : ℕ) → sum_by f (range_with_len 0 n) ≡ sum f n
sum_of_range f n = sum_of_list (range_with_len 0 n) 0 (length-range_with_len 0 n) f ∙ sum_same _ f n (λ i below. ap f (get_or-range_with_len 0 n i 0 below ∙ zero-add i))

-- what `all` answers, where the closure's answer at the item of place i is `holds i`
module _ {S A B F : Type 0} (steps : S → Option A → S → Type 0) (v : A → B) (g : Mut F (A × Unit {0}) Bool) (f : F) (u : S) (r : Bool) (d : B) where
  abbrev AnswersAt : List B → (ℕ → Bool) → Type 0
  AnswersAt all holds = (i : ℕ) (x : A) (b : Bool) (q : F) → i < length all → v x ≡ get_or all i d → Called g f (x, tt) b q → (q ≡ f) × (b ≡ holds i)

  along : (all : List B) (holds : ℕ → Bool) → AnswersAt all holds → (s t : S) → AlwaysYields steps v s all → (xs : List A) (o : Option A) (p j : F) → Yields steps s xs t → steps t o u
      → p ≡ f → FoldsTo (λ p x q. Called g p (x, tt) true q) p xs j → MatchOption o (r ≡ true) (λ x. (r ≡ false) × ((h : F) × Called g j (x, tt) false h)) → r ≡ every holds (length all)
  unfolding every
  along [] holds each s t always [] None p j run step same called end = end
  along [] holds each s t always [] (Some x) p j run step same called end = absurd (always x u (subst (λ z. steps z (Some x) u) (sym run) step))
  along [] holds each s t always (x ∷ xs) o p j run step same called end = absurd (always x run.0 run.1)
  along (y ∷ ys) holds each s t always [] None p j run step same called end = absurd (always.0 u (subst (λ z. steps z None u) (sym run) step))
  along (y ∷ ys) holds each s t always [] (Some x) p j run step same called end =
      let at : v x ≡ y = (always.1 x u (subst (λ z. steps z (Some x) u) (sym run) step)).0 in
      let answered = each 0 x false end.1.0 (omega arith) at (subst (λ z. Called g z (x, tt) false end.1.0) (sym called ∙ same) end.1.1) in
      end.0 ∙ ap (λ b. b && every (λ i. holds (suc i)) (length ys)) answered.1 ∙ sym (every_from_first holds (length ys))
  along (y ∷ ys) holds each s t always (x ∷ xs) o p j run step same called end =
      let next = always.1 x run.0 run.1 in
      let answered = each 0 x true called.0 (omega arith) next.0 (subst (λ z. Called g z (x, tt) true called.0) same called.1) in
      along ys (λ i. holds (suc i)) (λ i z b q below. each (suc i) z b q (omega arith)) run.0 t next.1 xs o called.0 j run.2 step answered.0 called.2 end
      ∙ ap (λ b. b && every (λ i. holds (suc i)) (length ys)) answered.1
      ∙ sym (every_from_first holds (length ys))

module _ {S A B F : Type 0} {steps : S → Option A → S → Type 0} {v : A → B} {g : Mut F (A × Unit {0}) Bool} {f : F} {s : S} {r : Bool} {all : List B} {holds : ℕ → Bool} {n : ℕ} (u : S) (d : B) where
  pub every_from_yields : ChecksAll steps g s f r u → YieldsList steps v s all → length all ≡ n
      → ((i : ℕ) (x : A) (b : Bool) (q : F) → i < n → v x ≡ get_or all i d → Called g f (x, tt) b q → (q ≡ f) × (b ≡ holds i)) → r ≡ every holds n
  every_from_yields ran road long each =
      along steps v g f u r d all holds (λ i x b q below. each i x b q (omega arith)) s ran.3.0 road.runs ran.0 ran.1 f ran.2 ran.3.1 ran.3.2 refl ran.4 ran.5 ∙ ap (every holds) long

module _ {F : Type 0} {f : F} {r : Bool} {holds : ℕ → Bool} {n : ℕ} where
  -- `(0..n).all(f)`
  pub every_from_range : {g : Mut F (ℕ × Unit {0}) Bool} {s u : Range ℕ} → ChecksAll nat_range_steps g s f r u → s ≡ record { start = 0; end = n }
      → ((i : ℕ) (b : Bool) (q : F) → i < n → Called g f (i, tt) b q → (q ≡ f) × (b ≡ holds i)) → r ≡ every holds n
  every_from_range {g = g} ran from each =
      every_from_yields _ 0 ran (YieldsList-from_range 0 n n from (sub-zero n)) (length-range_with_len 0 n)
      (λ i x b q below at called. each i b q below (subst (λ k. Called g f (k, tt) b q) (at ∙ get_or-range_with_len 0 n i 0 below ∙ zero-add i) called))

  -- `xs.iter().all(f)`; d is what `get_or` reads past the end
  pub every_from_slice : {A : Type 0} {g : Mut F (Bor A × Unit {0}) Bool} {s u : Iter A} {xs : List A} (d : A) → ChecksAll fronts g s f r u → iter_rest s ≡ xs → length xs ≡ n
      → ((i : ℕ) (x : Bor A) (b : Bool) (q : F) → i < n → x.now ≡ get_or xs i d → Called g f (x, tt) b q → (q ≡ f) × (b ≡ holds i)) → r ≡ every holds n
  every_from_slice {xs = xs} d ran rest long each = every_from_yields _ d ran (YieldsList-from_slice xs rest) long each

-- `core::array::from_fn(f)`, where the closure's answer at i is `rule i`
module _ {F B : Type 0} (g : Mut F (ℕ × Unit {0}) B) (f : F) (rule : ℕ → B) (ys : List B) (d : B) where
  read_from : (i n : ℕ) (p : F) → p ≡ f → IsFromFnResultFrom g p ys i n → ((k : ℕ) (y : B) (q : F) → k < i + n → Called g f (k, tt) y q → (q ≡ f) × (y ≡ rule k))
      → (k : ℕ) → i ≤ k → k < i + n → get_or ys k d ≡ rule k
  read_from i zero p same each answers k from below = absurd (omega arith)
  read_from i (suc n) p same each answers k from below =
      let answered = answers i each.1 each.0 (omega arith) (subst (λ z. Called g z (i, tt) each.1 each.0) same each.3) in
      elim (dec_le k i) [
        | yes here ↦ (let e : k ≡ i = omega arith in ap (λ m. get_or ys m d) e ∙ each.2.1 d ∙ answered.1 ∙ ap rule (sym e))
        | no later ↦ read_from (i + 1) n each.0 answered.0 each.4 (λ m y q l. answers m y q (omega arith)) k (omega arith) (omega arith)
      ]

-- a list that has the answers of a rule at its places
pub tabulated_from_reads : {B : Type 0} (rule : ℕ → B) (ys : List B) → ((d : B) (k : ℕ) → k < length ys → get_or ys k d ≡ rule k) → ys ≡ tabulate rule (length ys)
unfolding tabulate
tabulated_from_reads rule [] reads = refl
tabulated_from_reads rule (y ∷ ys) reads =
    ext_get_or y (y ∷ ys) (tabulate rule (length (y ∷ ys))) (sym (length_tabulate rule (length (y ∷ ys))))
    (λ k below. reads y k below ∙ sym (get_d_tabulate rule (length (y ∷ ys)) k y below))

pub tabulate_from_fn : {F B : Type 0} {g : Mut F (ℕ × Unit {0}) B} {f : F} {rule : ℕ → B} {ys : List B} {n : ℕ} → IsFromFnResult g f ys n
    → ((i : ℕ) (y : B) (q : F) → i < n → Called g f (i, tt) y q → (q ≡ f) × (y ≡ rule i)) → ys ≡ tabulate rule n
tabulate_from_fn {g = g} {f = f} {rule = rule} {ys = ys} {n = n} made answers =
    tabulated_from_reads rule ys (λ d k below. read_from g f rule ys d 0 n f refl made.each (λ i y q l. answers i y q (omega arith)) k (omega arith) (omega (arith, made.long)))
    ∙ ap (tabulate rule) made.long
