-- Laws of what a call gives: of a home that a lookup finds.
use Rattle.std.specs.Prelude.{ℕ, ◌≡◌, refl, List, Bool, true, false}
use Rattle.std.proofs.Math.Path.{sym}
use Rattle.std.proofs.Common.{◌∙◌}
use Rattle.std.proofs.Math.Option.{Option, none, some}
use Rattle.layout.specs.declared.Component.{Component}
use Rattle.layout.specs.Facts.{Keeps}
use Rattle.mapping.specs.Answers.{gives, refuses}
use Rattle.mapping.specs.AnswerLaws.{gives_or_refuses}
use Rattle.mapping.specs.Homes.{Home, home_of, is_given, has_home}
use Rattle.mapping.specs.Lookup.{lookup_in}
use Rattle.mapping.proofs.LookupLaws.{lookup_home}

-- No home is given, if each is ruled out.
not_given : (o : Option Home) → ((h : Home) → o ≡ some h → ⊥) → is_given o ≡ false
not_given none f = refl
not_given (some h) f = absurd (f h refl)

-- The components keep the rules.
module _ {more : Bool} {cs : List Component} (k : Keeps more cs) (b : ℕ) where
  -- A byte whose home a lookup gives has a home.
  pub found_home : (h : Home) → gives (some h) ≡ lookup_in b cs → true ≡ has_home b cs
  unfolding has_home
  found_home h e = rw ((lookup_home k b h).0 (sym e))

  -- A byte whose lookup is refused has none.
  pub refused_home : (n : ℕ) → refuses n ≡ lookup_in b cs → false ≡ has_home b cs
  unfolding has_home
  refused_home n e =
      sym (not_given (home_of b cs) (λ h q. gives_or_refuses (some h) n (sym ((lookup_home k b h).1 q) ∙ sym e)))
