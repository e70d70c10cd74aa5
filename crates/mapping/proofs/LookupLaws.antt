-- Lookup gives the home of a byte. What is in quotes is document 01's.
use Rattle.std.specs.Prelude.{ℕ, ◌<◌, ◌≡◌, List, Bool, ◌↔◌}
use Rattle.std.proofs.Common.{◌∙◌}
use Rattle.std.proofs.Math.Path.{ap}
use Rattle.std.proofs.Math.Bool.{true}
use Rattle.std.proofs.Math.Option.{some}
use Rattle.std.proofs.Math.ListN.{length}
use Rattle.lists.specs.Bools.{true_both}
use Rattle.layout.specs.declared.Component.{Component}
use Rattle.layout.specs.Holder.{holder_of}
use Rattle.layout.specs.Facts.{Keeps}
use Rattle.layout.specs.HolderLaws.{holder_holds}
use Rattle.mapping.specs.Answers.{gives}
use Rattle.mapping.specs.AnswerLaws.{answer_gives}
use Rattle.mapping.specs.Homes.{Home, home_in, home_of}
use Rattle.mapping.specs.Lookup.{lookup_refusal, lookup_in}
use Rattle.mapping.specs.HomeLaws.{home_position, holder, lookup_at}

-- The components keep the rules.
module _ {more : Bool} {cs : List Component} (k : Keeps more cs) (b : ℕ) where
  -- If the byte's component is init, lookup gives the home by it.
  pub lookup_init : holder_of b cs < length cs → (holder b cs).init ≡ true
      → lookup_in b cs ≡ gives (some (home_in (holder b cs) b))
  lookup_init h e = lookup_at k b (holder_of b cs) h (true_both e (holder_holds b cs h))

  -- Lookup gives a home exactly if it is the home of the byte.
  pub lookup_home : (h : Home) → (lookup_in b cs ≡ gives (some h)) ↔ (home_of b cs ≡ some h)
  unfolding lookup_in
  lookup_home h = (
    λ e. (answer_gives (lookup_refusal b cs) (home_of b cs) (some h) e).1,
    λ e.
        let r = home_position b cs h e in
        lookup_at k b r.position r.below r.init_at_lem ∙ ap (λ (x : Home). gives (some x)) r.read_as,
  )
