-- Lookup: what the first component that ends above a byte says of it.
use Rattle.std.specs.Prelude.{ℕ, ◌+◌, ◌≤◌, ◌<◌, ◌≡◌, List, true, false, ltb, length, get_or, drop}
use Rattle.std.proofs.Math.Option.{some}
use Rattle.std.proofs.Common.{sym, ap, ◌∙◌, arith, lt-ltb}
use Rattle.layout.specs.declared.Component.{Component}
use Rattle.layout.specs.Records.{no_component}
use Rattle.layout.specs.Holder.{holder_of}
use Rattle.layout.specs.HolderLaws.{ends_above, holder_ends}
use Rattle.layout.specs.Facts.{IsInit, Keeps}
use Rattle.layout.specs.FactLaws.{keeps_facts, kind_init}
use Rattle.layout.specs.ArrayLaws.{kind_at}
use Rattle.mapping.specs.declared.Span.{Span}
use Rattle.mapping.specs.Spans.{span_of}
use Rattle.mapping.specs.Components.{AreValid}
use Rattle.mapping.specs.Answers.{gives, refuses}
use Rattle.mapping.specs.Homes.{home_in}
use Rattle.mapping.specs.Lookup.{lookup_in}
use Rattle.mapping.specs.HomeLaws.{holder, lookup_none, lookup_not_init}
use Rattle.mapping.proofs.LookupLaws.{lookup_init}
use Rattle.mapping.proofs.Firsts.{first_here}

module _ (cs : List Component) (v : AreValid cs) (b : ℕ) where
  keeps : Keeps false cs
  keeps = keeps_facts false cs v.2

  -- The first that ends above the byte is the one that holds it.
  first_holds : ends_above b cs ≡ holder_of b cs
  first_holds = sym (holder_ends false cs keeps.linked b)

  -- There is none.
  pub none_holds : length cs ≤ ends_above b cs → lookup_in b cs ≡ refuses 10
  none_holds h = lookup_none keeps b (omega (arith, first_holds))

  -- It is at position i, since none before it ends above the byte.
  module _ (i : ℕ) (h : i < length cs) (far : ends_above b cs ≡ i + ends_above b (drop i cs))
      (above : b < (get_or cs i no_component).end) where
    at : ends_above b cs ≡ i
    at = first_here (λ (c : Component). ltb b c.end) cs i no_component h far (lt-ltb _ _ above)

    below : holder_of b cs < length cs
    below = omega (arith, first_holds, at)

    held : holder b cs ≡ get_or cs i no_component
    held = ap (λ (j : ℕ). get_or cs j no_component) (sym first_holds ∙ at)

    -- It is read as cutting sees it.
    module _ {x : Span} (read : x ≡ span_of (get_or cs i no_component)) where
      init_is : (holder b cs).init ≡ x.init
      init_is = rw (held, read)

      -- It is not init.
      pub not_init_holds : x.init ≡ false → lookup_in b cs ≡ refuses 11
      not_init_holds f = lookup_not_init keeps b below (init_is ∙ f)

      -- It is init.
      module _ (f : x.init ≡ true) where
        pub holder_init : IsInit (get_or cs i no_component)
        holder_init = kind_init (kind_at cs keeps.fields no_component i h) (rw read at f)

        pub init_holds : lookup_in b cs ≡ gives (some (home_in (get_or cs i no_component) b))
        init_holds =
            lookup_init keeps b below (init_is ∙ f)
            ∙ ap (λ (c : Component). gives (some (home_in c b))) held
