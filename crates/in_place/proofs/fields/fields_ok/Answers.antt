-- `in_place::fields::fields_ok` meets its contract: the tests are those of the definition, in its order.
use Rattle.std.proofs.Common.{sym, ◌∙◌}
use Rattle.page.specs.Content.{component_at}
use Rattle.in_place.proofs.FieldsAt.{fields_at}
use Rattle.in_place.proofs.fields.fields_ok.Goals as goal

pub returns : goal.returns
unfolding component_at
returns c =
    sym (
    fields_at c.args.s.now c.args.at
    ∙ rw (
      c.has_count.ensures,
      c.targets_ok.ensures,
      c.first_target_ok.ensures,
      c.kind_ok.ensures,
      c.read_at.ensures,
      c.stripe_fields_at-stripes.ensures.0,
      c.stripe_fields_at-stripes.ensures.1,
      c.stripe_fields_at-stripes.ensures.2,
      c.record_count-n.ensures.0,
      c.neighbour_at-c.ensures,
    )
    )
