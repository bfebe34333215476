-- One file more among those whose methods are looked at.
use Rattle.std.proofs.Common.{◌≡◌, ℕ, ◌+◌, ◌-◌, Bool, false, ltb, ◌||◌, ◌&&◌, List, length, get_or, slice_get, Some, refl, sym, ap, ◌∙◌, ◌<◌, arith, le-ltb}
use Rattle.std.proofs.lemmas.Option.{slice_get-get_or}
use Rattle.classfile.specs.ClassFile.{ClassInfo, MethodInfo}
use Rattle.jworld.specs.Classes.{World}
use Rattle.jworld.specs.Members.{methods_of}
use Rattle.jworld.specs.Alone.{declare_alone, alone_among}
use Rattle.jworld.proofs.Numbers.{list_any-range-more}

pub methods_of_file : (files : World) (i : ℕ) (file : ClassInfo) → i < length files → file ≡ get_or files i file → methods_of files (4 + i) ≡ file.methods
methods_of_file files i file within is =
    let behind : ltb (4 + i) 4 ≡ false = le-ltb (4 + i) 4 (omega arith) in
    let place : 4 + i - 4 ≡ i = omega arith in
    let found : slice_get files i ≡ Some file = slice_get-get_or files i file within ∙ ap Some (sym is) in
    rw (behind, place, found) refl

pub alone_among-more : (files : World) (i : ℕ) (file : ClassInfo) (test : ℕ → Bool) (name descriptor : List ℕ) → i < length files → file ≡ get_or files i file
    → alone_among files (4 + (i + 1)) test name descriptor ≡ (alone_among files (4 + i) test name descriptor || (test (4 + i) && declare_alone name descriptor file.methods))
alone_among-more files i file test name descriptor within is =
    let next : 4 + (i + 1) ≡ 4 + i + 1 = omega arith in
    let Test : ℕ → Bool = λ class. test class && declare_alone name descriptor (methods_of files class) in
    ap (λ n. alone_among files n test name descriptor) next ∙ list_any-range-more Test (4 + i)
    ∙ ap (λ (methods : List MethodInfo). alone_among files (4 + i) test name descriptor || (test (4 + i) && declare_alone name descriptor methods)) (methods_of_file files i file within is)
