pub mod EdgedTrees
