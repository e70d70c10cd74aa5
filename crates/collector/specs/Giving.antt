-- The layout out of a collector.
use Rattle.std.specs.Prelude.{ℕ, Result, Ok, Err, cond, ◌&&◌}
use Rattle.refusals.specs.declared.Refusal.{Refusal}
use Rattle.refusals.specs.Refusals.{number_of}
use Rattle.layout.specs.declared.Layout.{Layout}
use Rattle.layout.specs.Records.{packed, no_layout}
use Rattle.collector.specs.declared.Collector.{Collector}
use Rattle.collector.specs.Collector.{gathered, collector_ok}

-- What comes out of a collector: 0 and the layout, or the number of the refusal and a blank layout.
pub record LayoutOut : Type 0 where
  pub refusal : ℕ
  pub layout : Layout

-- What the code's call gives.
abbrev pub layout_says : Result Layout Refusal → LayoutOut
layout_says (Ok l) = record { refusal = 0; layout = l }
layout_says (Err e) = record { refusal = number_of e; layout = no_layout }

-- "Only a complete collector gives a layout": the gathered components and the generation; else refusal 1 and a blank
-- layout.
unfoldable pub layout_out : Collector → LayoutOut
layout_out c =
    cond (collector_ok c && c.layout.complete)
    (record { refusal = 0; layout = packed c.layout.generation (gathered c) })
    (record { refusal = 1; layout = no_layout })
