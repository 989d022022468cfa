mod Reducing
