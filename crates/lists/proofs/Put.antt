-- Laws of `put`: what it leaves and what it holds, and what comes to a put: a part that was lent, two puts in a row.
use Prim.Native.Nat.{ℕ, ◌+◌, ◌-◌, ◌<◌, ◌≤◌}
use native.Mathlib.Nat.{add_assoc, add-sub_cancel_left, le_refl}
use native.Mathlib.Omega.{arith}
use mathlib.Core.Path.{◌≡◌, refl, sym, ap, ◌∙◌}
use mathlib.Core.List.{List, [], ◌++◌, append_assoc}
use lib.ListN.{length, get_or, take, drop, length-append, length-take, length-drop}
use lib.Seq.{sets-eq, length-take-le, take_at, drop_at, take-append-le, take-take, drop-append-add, drop-drop, take-add, get_or-take, get_or-drop}
use Rattle.lists.specs.Build.{put}

-- ---- what a put leaves and what it holds

module _ {A : Type 0} (b v : List A) (at : ℕ) where
  pub length_put : at + length v ≤ length b → length (put b at v) ≡ length b
  length_put fits = simp (length-append, length-take, length-drop) (omega arith)

  length_up_to_put : at ≤ length b → length (take at b ++ v) ≡ at + length v
  length_up_to_put fits = simp (length-append, length-take) (omega arith)

  pub take_before_put : (n : ℕ) → n ≤ at → at ≤ length b → take n (put b at v) ≡ take n b
  take_before_put n before fits =
      ap (take n) (append_assoc (take at b) v (drop (at + length v) b))
      ∙ take-append-le n (take at b) (v ++ drop (at + length v) b) (simp length-take (omega arith))
      ∙ take-take n at b before

  pub drop_past_put : (n : ℕ) → at + length v ≤ n → at ≤ length b → drop n (put b at v) ≡ drop n b
  drop_past_put n past fits =
      let rest = n - (at + length v) in
      let place : n ≡ length (take at b ++ v) + rest = omega (arith, length_up_to_put fits) in
      let back : at + length v + rest ≡ n = omega arith in
      ap (λ (k : ℕ). drop k (put b at v)) place
      ∙ drop-append-add (take at b ++ v) (drop (at + length v) b) rest
      ∙ drop-drop rest (at + length v) b
      ∙ ap (λ (k : ℕ). drop k b) back

  pub read_put : at ≤ length b → take (length v) (drop at (put b at v)) ≡ v
  read_put fits =
      let past = drop (at + length v) b in
      ap (λ (l : List A). take (length v) (drop at l)) (append_assoc (take at b) v past)
      ∙ ap (take (length v)) (drop_at (take at b) (v ++ past) at (length-take-le at b fits))
      ∙ take_at v past (length v) refl

  -- a part before what was put
  pub read_before_put : (a n : ℕ) → a + n ≤ at → at + length v ≤ length b → take n (drop a (put b at v)) ≡ take n (drop a b)
  read_before_put a n before fits =
      sym (drop_at (take a (put b at v)) (take n (drop a (put b at v))) a (length-take-le a (put b at v) (omega (arith, length_put fits))))
      ∙ ap (drop a) (sym (take-add a n (put b at v)) ∙ take_before_put (a + n) before (omega arith) ∙ take-add a n b)
      ∙ drop_at (take a b) (take n (drop a b)) a (length-take-le a b (omega arith))

  -- the element at place i, before what was put, in it and past it
  pub get_d_before_put : (i : ℕ) (d : A) → i < at → at ≤ length b → get_or (put b at v) i d ≡ get_or b i d
  get_d_before_put i d before fits =
      sym (get_or-take at (put b at v) i d before)
      ∙ ap (λ (l : List A). get_or l i d) (take_before_put at (le_refl at) fits)
      ∙ get_or-take at b i d before

  pub get_d_in_put : (i : ℕ) (d : A) → at ≤ i → i < at + length v → at ≤ length b → get_or (put b at v) i d ≡ get_or v (i - at) d
  get_d_in_put i d from inside fits =
      let place : i ≡ at + (i - at) = omega arith in
      ap (λ (k : ℕ). get_or (put b at v) k d) place
      ∙ sym (get_or-drop at (put b at v) (i - at) d)
      ∙ sym (get_or-take (length v) (drop at (put b at v)) (i - at) d (omega arith))
      ∙ ap (λ (l : List A). get_or l (i - at) d) (read_put fits)

  pub get_d_past_put : (i : ℕ) (d : A) → at + length v ≤ i → at ≤ length b → get_or (put b at v) i d ≡ get_or b i d
  get_d_past_put i d past fits =
      let end = at + length v in
      let place : i ≡ end + (i - end) = omega arith in
      ap (λ (k : ℕ). get_or (put b at v) k d) place
      ∙ sym (get_or-drop end (put b at v) (i - end) d)
      ∙ ap (λ (l : List A). get_or l (i - end) d) (drop_past_put end (le_refl end) fits)
      ∙ get_or-drop end b (i - end) d
      ∙ ap (λ (k : ℕ). get_or b k d) (sym place)

module _ {A : Type 0} where
  -- ---- puts in a row

  -- right behind a front that stands already
  pub put_behind : (front v b : List A) (n : ℕ) → length front ≡ n → put (front ++ drop n b) n v ≡ front ++ v ++ drop (n + length v) b
  put_behind front v b n long =
      ap (λ (l : List A). l ++ v ++ drop (n + length v) (front ++ drop n b)) (take_at front (drop n b) n long)
      ∙ ap (λ (k : ℕ). front ++ v ++ drop (k + length v) (front ++ drop n b)) (sym long)
      ∙ ap (λ (l : List A). front ++ v ++ l) (drop-append-add front (drop n b) (length v) ∙ drop-drop (length v) n b)

  pub put_after_put : (b u v : List A) (at n : ℕ) → at + length u ≡ n → n ≤ length b → put (put b at u) n v ≡ put b at (u ++ v)
  put_after_put b u v at n next fits =
      ap (λ (k : ℕ). put (put b at u) k v) (sym next)
      ∙ put_behind (take at b ++ u) v b (at + length u) (length_up_to_put b u at (omega arith))
      ∙ simp (append_assoc, add_assoc, length-append)

  -- `&xs[k..k + n]`
  pub part_is_take : (xs : List A) (k n : ℕ) → take (k + n - k) (drop k xs) ≡ take n (drop k xs)
  part_is_take xs k n = ap (λ (m : ℕ). take m (drop k xs)) (add-sub_cancel_left k n)

  pub length_part : (xs : List A) (k n : ℕ) → k + n ≤ length xs → length (take n (drop k xs)) ≡ n
  length_part xs k n fits = length-take-le n (drop k xs) (rw (length-drop k xs) (omega arith))

  -- ---- a part that was lent and has come back

  -- `&mut xs[a..e]`, which came back as ys
  pub lent_part_is_put : (xs ys : List A) (a e : ℕ) → a + length ys ≡ e → take a xs ++ (ys ++ drop (e - a) (drop a xs)) ≡ put xs a ys
  lent_part_is_put xs ys a e end =
      let long : e - a ≡ length ys = omega arith in
      rw long (simp (append_assoc, drop-drop))

  -- nothing was put yet
  pub put_nothing : (b : List A) (at : ℕ) → at ≤ length b → b ≡ put b at []
  put_nothing b at fits = sets-eq [] b at (omega arith)
