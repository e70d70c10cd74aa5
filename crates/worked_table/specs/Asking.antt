-- How the rows of a table of examples are asked and answered: by the definitions of the calls, of whole layouts, so that their
-- validity is asked too. What is in quotes is document 01's.
use Rattle.std.specs.Prelude.{ℕ, List, [], ◌∷◌, Bool, true, false, length, replicate}
use Rattle.std.proofs.Math.Option.{Option, get_or}
use Rattle.stripe.specs.Stripe.{unit_of, stripe_of, object_byte, file_byte}
use Rattle.layout.specs.declared.Component.{Component}
use Rattle.layout.specs.declared.Layout.{Layout}
use Rattle.layout.specs.Records.{no_object, view, pack_objects, pack_components, packed, no_layout}
use Rattle.layout.specs.Fields.{nonzero_multiple, extension_ok, striped_ok, kind_ok}
use Rattle.layout.specs.Fields.{is_minus_one, is_target, first_target_ok, fields_ok}
use Rattle.layout.specs.Neighbours.{neighbours_hold}
use Rattle.layout.specs.Distinct.{same_object, distinct_hold}
use Rattle.layout.specs.Rules.{rule_broken, valid}
use Rattle.layout.specs.Samples.{mega, init_of, bare_of, extension_of, layout_a, layout_b}
use Rattle.mapping.specs.Answers.{Answer, gives, refuses, checked}
use Rattle.mapping.specs.Homes.{Home, in_object, home_in, home_of, has_home}
use Rattle.mapping.specs.Lookup.{lookup_refusal, lookup_of}
use Rattle.mapping.specs.Back.{file_byte_in, hidden_refusal, back_refusal, byte_of, back_of}
use Rattle.mapping.specs.Cutting.{unit_end, unit_count, too_many, refusal_by, cut_refusal, cut_pieces, cut_of, room_after}
use Rattle.mapping.specs.CutFacts.{stripe_object}
use Rattle.free_table.specs.declared.TargetRecord.{TargetRecord}
use Rattle.free_table.specs.Table.{table_ok, free_below, usable}
use Rattle.free_table.specs.Choosing.{chosen}
use Rattle.growth_rules.specs.Parts.{leaving, granting, following, fresh_id}
use Rattle.growth_rules.specs.Steps.{Call, choosing, held_step, spill_step, low_step, extension_step, step_on}
use Rattle.growth_rules.specs.Growing.{Outcome, outcome_of, grow_in, grow_of}
use Rattle.growth_rules.specs.Moments.{after_call}

-- What a row asks of a layout.
pub data Asked : Type 0 where
  -- The home of a file byte.
  lookup : ℕ → Asked
  -- The file byte of an object byte, told as in "id 2 stripe 1 byte 1M": component id, stripe, object byte.
  back : ℕ → ℕ → ℕ → Asked
  -- The pieces of a request, told by its offset and its length.
  cut : ℕ → ℕ → Asked
  -- A call of growth.
  grow : Call → Asked

-- A row: what it asks, of a layout that it names, or, as in "then 32M", of the layout after the row before it.
pub data Row : Type 0 where
  of : Layout → Asked → Row
  next : Asked → Row

-- What the answer to a row is: all that the call gives.
pub data Reply : Type 0 where
  -- The answer of a lookup.
  looked_up : Answer (Option Home) → Reply
  -- The answer of the way back.
  found_back : Answer ℕ → Reply
  -- The answer of cutting, and the lent numbers afterwards.
  cut_into : Answer ℕ → List ℕ → Reply
  -- The answer of growth, and the layout and the table afterwards.
  grown : Outcome → Reply

-- The home that the paper tells by component id, stripe and object byte: the object is that of the stripe's object record in the
-- component with that id. (If there is no such record it is the blank object, which is in no layout of the examples.)
abbrev pub home_by : List Component → ℕ → ℕ → ℕ → Home
home_by cs id stripe byte = in_object (get_or (stripe_object cs id stripe) no_object) byte

-- The numbers that are lent to a row that asks for pieces: room for two.
abbrev pub room : List ℕ
room = replicate 10 0

-- The answer of a layout to what a row asks.
abbrev pub reply_of : Layout → Asked → Reply
reply_of l (lookup b) = looked_up (lookup_of b l)
reply_of l (back id stripe byte) = found_back (back_of (home_by (view l) id stripe byte) l)
reply_of l (cut offset bytes) =
    cut_into (cut_of offset bytes (length room) l)
    (room_after (checked l (cut_refusal offset bytes (length room) (view l))) (cut_pieces offset bytes (view l)) room)
reply_of l (grow k) = grown (grow_of l k)

-- The layout after a row: growth may change it, the other calls leave it as it is.
abbrev pub layout_after : Layout → Asked → Layout
layout_after l (lookup b) = l
layout_after l (back id stripe byte) = l
layout_after l (cut offset bytes) = l
layout_after l (grow k) = after_call l k

-- The answers to rows, asked one after another, if `l` is the layout after the row before them. Each example is computed by
-- this definition, so its second line names all that is to be computed.
unfoldable pub replies_from : Layout → List Row → List Reply
unfolding lookup_of lookup_refusal home_of home_in has_home back_of back_refusal byte_of hidden_refusal file_byte_in cut_of
    refusal_by too_many room_after unit_end unit_count unit_of stripe_of object_byte file_byte grow_of grow_in outcome_of step_on
    extension_step low_step spill_step held_step choosing following granting leaving fresh_id chosen usable free_below table_ok
    valid rule_broken fields_ok kind_ok extension_ok striped_ok nonzero_multiple first_target_ok is_target is_minus_one
    neighbours_hold distinct_hold same_object pack_objects pack_components init_of bare_of extension_of layout_a layout_b
replies_from l [] = []
replies_from l (of m a ∷ rows) = reply_of m a ∷ replies_from (layout_after m a) rows
replies_from l (next a ∷ rows) = reply_of l a ∷ replies_from (layout_after l a) rows

-- The answers to the rows of a table, of which the first names its layout.
abbrev pub replies : List Row → List Reply
replies rows = replies_from no_layout rows

-- A call of growth is accepted: does the offset now have a home, did the layout change, and the generation, the components and
-- the table afterwards.
abbrev pub accepts : Bool → Bool → ℕ → List Component → List TargetRecord → Reply
accepts home changed generation cs table =
    grown
    (record {
      answer = gives (record { home = home; changed = changed });
      layout = packed generation cs;
      table = table;
    })

-- It is accepted and changes the layout, and the offset now has a home.
abbrev pub grows_to : ℕ → List Component → List TargetRecord → Reply
grows_to generation cs table = accepts true true generation cs table

-- It is accepted and changes the layout, but "one grant may not reach" the offset.
abbrev pub grows_towards : ℕ → List Component → List TargetRecord → Reply
grows_towards generation cs table = accepts false true generation cs table

-- "no change, accepted."
abbrev pub stays_at : ℕ → List Component → List TargetRecord → Reply
stays_at generation cs table = accepts true false generation cs table

-- It is refused by a number: the layout and the table stay as they are.
abbrev pub refused_by : ℕ → ℕ → List Component → List TargetRecord → Reply
refused_by number generation cs table =
    grown (record { answer = refuses number; layout = packed generation cs; table = table })

-- The low mark of the examples.
abbrev pub mark : ℕ
mark = mega 1

-- A target that is usable by that mark, with the number of its next object: just as many bytes are free.
abbrev pub usable_at : ℕ → ℕ → TargetRecord
usable_at target number = record { target = target; free = 1048576; next = number }

-- A target that is low by that mark: one byte less is free.
abbrev pub low_at : ℕ → ℕ → TargetRecord
low_at target number = record { target = target; free = 1048575; next = number }

-- A call of growth at an offset, with a table.
abbrev pub grow_at : ℕ → List TargetRecord → Asked
grow_at offset table = grow (record { offset = offset; mark = mark; table = table })
