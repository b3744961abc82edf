-- the classes of styles and scripts in the style sheet
use Rattle.std.specs.Prelude.{ℕ, List, codes}
use Rattle.trace_shapes.specs.declared.shape.Colour.{Colour}
use Rattle.trace_shapes.specs.declared.shape.Colour.TheVariants as colour
use Rattle.trace_shapes.specs.declared.shape.Style.{Style}
use Rattle.trace_shapes.specs.declared.shape.Style.TheVariants as style
use Rattle.trace_shapes.specs.declared.shape.Script.{Script}
use Rattle.trace_shapes.specs.declared.shape.Script.TheVariants as script

-- the class of a bar while a node holds a file
abbrev pub held_class : Colour → List ℕ
held_class colour.Blue = codes "held blue"
held_class colour.Purple = codes "held purple"
held_class colour.Teal = codes "held teal"
held_class colour.Pink = codes "held pink"
held_class colour.Orange = codes "held orange"
held_class colour.Grey = codes "held grey"

-- the class of a bar while a node is active
abbrev pub active_class : Colour → List ℕ
active_class colour.Blue = codes "active blue"
active_class colour.Purple = codes "active purple"
active_class colour.Teal = codes "active teal"
active_class colour.Pink = codes "active pink"
active_class colour.Orange = codes "active orange"
active_class colour.Grey = codes "active grey"

-- the class of a style
abbrev pub class_of : Style → List ℕ
class_of style.Paper = codes "paper"
class_of style.Lane = codes "lane"
class_of style.Life = codes "life"
class_of style.Tick = codes "tick"
class_of (style.Held colour) = held_class colour
class_of (style.Active colour) = active_class colour
class_of style.Issued = codes "issued"
class_of style.Gone = codes "gone"
class_of style.Committed = codes "committed"
class_of style.Answered = codes "answered"
class_of style.Call = codes "call"
class_of style.Open = codes "open"
class_of style.Ask = codes "ask"
class_of style.Reply = codes "reply"
class_of style.Found = codes "found"
class_of style.Start = codes "start"
class_of style.Begin = codes "begin"
class_of style.Stop = codes "stop"

-- the class of a script
abbrev pub script_class : Script → List ℕ
script_class script.Title = codes "title"
script_class script.Note = codes "note"
script_class script.Number = codes "number left"
script_class script.Head = codes "head"
script_class script.HeadLeft = codes "head left"
script_class script.Tick = codes "ticks"
script_class script.Clock = codes "clock"
script_class script.ClockLeft = codes "clock left"
script_class script.Label = codes "label"
script_class script.LabelLeft = codes "label left"
script_class script.Stop = codes "stops"
script_class script.Active = codes "place on"
script_class script.Issued = codes "place issue"
script_class script.Gone = codes "place lost"
script_class script.Committed = codes "place on"
script_class script.Answered = codes "place answer"
