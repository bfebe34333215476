-- What a row of the code's table stands for.
use Rattle.std.specs.Prelude.{ℕ, Bool}
use Rattle.std.specs.Int.{w8, w16, w32}
use Rattle.jcode.specs.Form.{Form, Wanted}
use Rattle.jcode.specs.Form as form
use Rattle.jcode.specs.declared.op.Op.{Op}
use Rattle.jcode.specs.declared.op.Op.TheVariants as op
use Rattle.jcode.specs.declared.row.Plain.{Plain}
use Rattle.jcode.specs.declared.row.Plain.TheVariants as a
use Rattle.jcode.specs.declared.row.Arithmetic.{Arithmetic}
use Rattle.jcode.specs.declared.row.Arithmetic.TheVariants as n
use Rattle.jcode.specs.declared.row.Local.{Local}
use Rattle.jcode.specs.declared.row.Local.TheVariants as l
use Rattle.jcode.specs.declared.row.Jump.{Jump}
use Rattle.jcode.specs.declared.row.Jump.TheVariants as j
use Rattle.jcode.specs.declared.row.Named.{Named}
use Rattle.jcode.specs.declared.row.Named.TheVariants as e
use Rattle.jcode.specs.declared.row.Row.{Row}
use Rattle.jcode.specs.declared.row.Row.TheVariants as row
use Rattle.classfile.specs.declared.member.MemberKind.TheVariants.{Field, Method}

abbrev pub plain_op : Plain → Op
plain_op a.Nop = op.Nop
plain_op a.Null = op.Null
plain_op a.Pop = op.Pop
plain_op a.Pop2 = op.Pop2
plain_op a.Dup = op.Dup
plain_op a.DupX1 = op.DupX1
plain_op a.DupX2 = op.DupX2
plain_op a.Dup2 = op.Dup2
plain_op a.Dup2X1 = op.Dup2X1
plain_op a.Dup2X2 = op.Dup2X2
plain_op a.Swap = op.Swap
plain_op a.I2L = op.I2L
plain_op a.L2I = op.L2I
plain_op a.I2B = op.I2B
plain_op a.I2C = op.I2C
plain_op a.I2S = op.I2S
plain_op a.CompareL = op.CompareL
plain_op a.ReturnI = op.ReturnI
plain_op a.ReturnL = op.ReturnL
plain_op a.ReturnA = op.ReturnA
plain_op a.Return = op.Return
plain_op a.ArrayLength = op.ArrayLength
plain_op a.Throw = op.Throw

abbrev pub number_op : Arithmetic → Bool → Op
number_op n.Add wide = op.Add wide
number_op n.Sub wide = op.Sub wide
number_op n.Mul wide = op.Mul wide
number_op n.Div wide = op.Div wide
number_op n.Rem wide = op.Rem wide
number_op n.Neg wide = op.Neg wide
number_op n.Shl wide = op.Shl wide
number_op n.Shr wide = op.Shr wide
number_op n.Ushr wide = op.Ushr wide
number_op n.And wide = op.And wide
number_op n.Or wide = op.Or wide
number_op n.Xor wide = op.Xor wide

abbrev pub local_op : Local → ℕ → Op
local_op l.LoadI slot = op.LoadI slot
local_op l.LoadL slot = op.LoadL slot
local_op l.LoadA slot = op.LoadA slot
local_op l.StoreI slot = op.StoreI slot
local_op l.StoreL slot = op.StoreL slot
local_op l.StoreA slot = op.StoreA slot

abbrev pub branch_op : Jump → ℕ → Op
branch_op (j.Zero test) to = op.IfZero test to
branch_op (j.Int test) to = op.IfInt test to
branch_op (j.Ref equal) to = op.IfRef equal to
branch_op (j.Null null) to = op.IfNull null to
branch_op j.Always to = op.Goto to

abbrev pub named_op : Named → ℕ → Op
named_op e.GetStatic index = op.GetStatic index
named_op e.PutStatic index = op.PutStatic index
named_op e.GetField index = op.GetField index
named_op e.PutField index = op.PutField index
named_op e.InvokeVirtual index = op.InvokeVirtual index
named_op e.InvokeSpecial index = op.InvokeSpecial index
named_op e.InvokeStatic index = op.InvokeStatic index
named_op e.New index = op.New index
named_op e.NewRefs index = op.NewRefs index
named_op e.CheckCast index = op.CheckCast index
named_op e.InstanceOf index = op.InstanceOf index

abbrev pub wanted : Named → Wanted
wanted e.GetStatic = form.member Field
wanted e.PutStatic = form.member Field
wanted e.GetField = form.member Field
wanted e.PutField = form.member Field
wanted e.InvokeVirtual = form.member Method
wanted e.InvokeSpecial = form.member Method
wanted e.InvokeStatic = form.member Method
wanted e.New = form.class
wanted e.NewRefs = form.class
wanted e.CheckCast = form.class
wanted e.InstanceOf = form.class

abbrev pub form_of : Row → Form
form_of row.Outside = form.outside
form_of row.OutsideLocal = form.outside_local
form_of (row.Alone plain) = form.plain (plain_op plain)
form_of (row.Int value) = form.plain (op.Const4 value)
form_of (row.Long value) = form.plain (op.Const8 value)
form_of (row.SlotAt local slot) = form.plain (local_op local slot)
form_of (row.LoadItem shape) = form.plain (op.ArrayLoad shape)
form_of (row.StoreItem shape) = form.plain (op.ArrayStore shape)
form_of (row.Number operation wide) = form.plain (number_op operation wide)
form_of row.Byte = form.immediate w8 op.Const4
form_of row.Short = form.immediate w16 op.Const4
form_of row.IntConstant = form.int_constant w8
form_of row.IntConstantWide = form.int_constant w16
form_of row.LongConstant = form.long_constant
form_of (row.Slot local) = form.local (local_op local)
form_of row.Increment = form.increment
form_of (row.Branch jump) = form.branch w16 (branch_op jump)
form_of row.FarGoto = form.branch w32 op.Goto
form_of row.TableSwitch = form.table_switch
form_of row.LookupSwitch = form.lookup_switch
form_of (row.Entry named) = form.entry (wanted named) (named_op named)
form_of row.InvokeInterface = form.interface_call
form_of row.NewArray = form.array_type
form_of row.Wide = form.wide
