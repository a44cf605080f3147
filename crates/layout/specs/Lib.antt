-- The block and its laws, and the choice by a test that other crates' definitions use too.
pub mod Pick
pub mod Block
pub mod Laws
