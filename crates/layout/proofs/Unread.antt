-- What is said to be past the end of an array of components, where no code reads.
use mathlib.Core.List.{[]}
use Rattle.layout.specs.declared.Component.{Component}
use Rattle.layout.specs.Records.{blank_with}

abbrev pub unread : Component
unread = blank_with []
