-- The constant pool of a class, as instructions see it.
use Rattle.std.specs.Prelude.{is_some, option_map}
use Rattle.classfile.specs.ClassFile.{ClassInfo}
use Rattle.classfile.specs.Pool.{class_name, member, constant_of}
use Rattle.jcode.specs.Pool.{Pool}

unfoldable pub pool_of : ClassInfo → Pool
pool_of class = record {
  member = λ index. option_map (λ named. named.kind) (member class.pool index);
  is_class = λ index. is_some (class_name class.pool index);
  constant = λ index. constant_of class.pool index;
}
