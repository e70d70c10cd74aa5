-- Components at places as cutting sees them.
use Rattle.std.specs.Prelude.{ℕ, List}
use Rattle.page.specs.Content.{component_at}
use Rattle.in_place.specs.Places.{components_at}
use Rattle.mapping.specs.declared.Span.{Span}
use Rattle.mapping.specs.Spans.{span_of, spans_of}

-- The component at a place.
abbrev pub span_at : List ℕ → ℕ → Span
span_at s at = span_of (component_at s at)

-- The components at places.
abbrev pub spans_at : List ℕ → List ℕ → List Span
spans_at s ps = spans_of (components_at s ps)
