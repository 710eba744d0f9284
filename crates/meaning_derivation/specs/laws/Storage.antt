-- Storage classes are told by their numbers.
use Rattle.std.specs.Prelude.{◌≡◌}
use Rattle.meaning_derivation.specs.Values.{Value, TreeValue, parts_of}
use Rattle.meaning_derivation.specs.Storage.{StorageClass, storage_number, storage_of_number, storage_class, specifiers_tree, noted_class}

-- a class is read back from its number
abbrev pub ClassesHaveNumbers : Type 0
ClassesHaveNumbers = (class_ : StorageClass) → storage_of_number (storage_number class_) ≡ class_

-- and the one that a node of specifiers has is that of its parts
abbrev pub SpecifiersHaveTheirClass : Type 0
SpecifiersHaveTheirClass = (word list : Value) → noted_class (TreeValue (specifiers_tree word list)) ≡ storage_class (parts_of list)
