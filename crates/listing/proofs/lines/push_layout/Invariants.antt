-- `listing::lines::push_layout`: the text, and the lines of the components that are to come, are the whole text.
use Rattle.std.proofs.Common.{◌≡◌, ◌≤◌, ◌+◌, ◌*◌, ◌++◌, length, drop}
use Rattle.layout.specs.Records.{view}
use Rattle.listing.specs.Listing.{component_lines, layout_text}
use Rattle.listing.proofs.lines.push_layout.Given as goal

abbrev pub invariant-loop-c : goal.invariant-loop-c
invariant-loop-c l =
    record {
      text : l.text.bytes ++ component_lines (drop l.c-index (view l.l)) ≡ layout_text l.l;
      upper_bound : length l.text.bytes ≤ 144 * (l.c-index + 1);
    }
