-- The code's kinds of object, as the rules have them.
use Rattle.rules.specs.Layout.{process, segment, file}
use Rattle.rules.specs.Layout as rules
use Rattle.layout.specs.declared.Kind.{Kind}
use Rattle.layout.specs.declared.Kind.TheVariants.{Process, Segment, File}

abbrev pub kind_of : Kind → rules.Kind
kind_of Process = process
kind_of Segment = segment
kind_of File = file
