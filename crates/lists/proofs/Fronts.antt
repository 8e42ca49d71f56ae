-- A buffer that is written from its front on: each value goes right behind what stands there already.
use Prim.Native.Nat.{ℕ, ◌+◌, ◌-◌}
use mathlib.Core.Path.{◌≡◌, refl, ap, ap₂, ◌∙◌}
use mathlib.Core.List.{List, [], ◌++◌}
use lib.ListN.{length, take, drop, length-append}
use Rattle.lists.specs.Build.{put}
use Rattle.lists.proofs.Put.{put_behind, lent_part_is_put}

-- whole is b with the n elements of front in the place of its first n
pub record Fronted {A : Type 0} (b front : List A) (n : ℕ) (whole : List A) : Type 0 where
  pub long : length front ≡ n
  pub same : whole ≡ front ++ drop n b

module _ {A : Type 0} where
  pub front_none : (b : List A) → Fronted b [] 0 b
  front_none b = record { long = refl; same = refl }

  module _ {b front whole : List A} {n : ℕ} (fronted : Fronted b front n whole) where
    pub front_and_put : (v : List A) {k : ℕ} {next : List A} → length v ≡ k → next ≡ put whole n v → Fronted b (front ++ v) (n + k) next
    front_and_put v long is = record {
      long = length-append front v ∙ ap₂ ◌+◌ fronted.long long;
      same =
          is
          ∙ ap (λ (l : List A). put l n v) fronted.same
          ∙ put_behind front v b n fronted.long
          ∙ ap (λ (m : ℕ). front ++ v ++ drop (n + m) b) long;
    }

    -- the part right behind was lent, and came back as the value
    pub front_and_lent : (v : List A) {k : ℕ} {part : List A} → length v ≡ k → part ≡ v
        → Fronted b (front ++ v) (n + k) (take n whole ++ (part ++ drop (n + k - n) (drop n whole)))
    front_and_lent v {k} {part} long is =
        front_and_put v long
        (lent_part_is_put whole part n (n + k) (ap (λ (m : ℕ). n + m) (ap length is ∙ long)) ∙ ap (put whole n) is)
