-- The storage class of specifiers is read back from their number.
use Rattle.std.proofs.Common.{refl}
use Rattle.meaning_derivation.specs.Values.{parts_of}
use Rattle.meaning_derivation.specs.Storage.{TypedefClass, ExternClass, OtherClass, storage_class}
use Rattle.meaning_derivation.specs.laws.Storage.{ClassesHaveNumbers, SpecifiersHaveTheirClass}

pub classes_have_numbers : ClassesHaveNumbers
classes_have_numbers TypedefClass = refl
classes_have_numbers ExternClass = refl
classes_have_numbers OtherClass = refl

pub specifiers_have_their_class : SpecifiersHaveTheirClass
specifiers_have_their_class word list = classes_have_numbers (storage_class (parts_of list))
